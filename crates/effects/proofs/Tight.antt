-- Each promise fixes its outcome: two outcomes that satisfy a function's own contract, as its `Reads` has it, are equal. The
-- statements are of the word layer and the crate `acts`. In the order of src/: group, ways.
-- Assumes nothing.
use mathlib.Core.Path.{sym, ◌∙◌}
use mathlib.Core.List.{[]}
use Rattle.word.proofs.Tight.{OneResult}
use Rattle.acts.proofs.Tight.{OneMemory, ends_tight}
use Rattle.effects.proofs.group.shift_place.Kinds as shift_place
use Rattle.effects.proofs.group.shift_place.Reads as shift_place_reads
use Rattle.effects.proofs.group.alter_word.Kinds as alter_word
use Rattle.effects.proofs.group.alter_word.Reads as alter_word_reads
use Rattle.effects.proofs.group.alter_extend.Kinds as alter_extend
use Rattle.effects.proofs.group.alter_extend.Reads as alter_extend_reads
use Rattle.effects.proofs.group.is_met.Kinds as is_met
use Rattle.effects.proofs.group.is_met.Reads as is_met_reads
use Rattle.effects.proofs.ways.take_quotient.Kinds as take_quotient
use Rattle.effects.proofs.ways.take_quotient.Reads as take_quotient_reads
use Rattle.effects.proofs.ways.take_product.Kinds as take_product
use Rattle.effects.proofs.ways.take_product.Reads as take_product_reads
use Rattle.effects.proofs.group.shift_rotate.Kinds as shift_rotate
use Rattle.effects.proofs.group.shift_rotate.Reads as shift_rotate_reads
use Rattle.effects.proofs.group.alter_skip.Kinds as alter_skip
use Rattle.effects.proofs.group.alter_skip.Reads as alter_skip_reads
use Rattle.effects.proofs.group.long_rotate.Kinds as long_rotate
use Rattle.effects.proofs.group.long_rotate.Reads as long_rotate_reads
use Rattle.effects.proofs.group.copy_to_index.Kinds as copy_to_index
use Rattle.effects.proofs.group.copy_to_index.Reads as copy_to_index_reads
use Rattle.effects.proofs.group.copy_from_index.Kinds as copy_from_index
use Rattle.effects.proofs.group.copy_from_index.Reads as copy_from_index_reads
use Rattle.effects.proofs.group.exchange.Kinds as exchange
use Rattle.effects.proofs.group.exchange.Reads as exchange_reads
use Rattle.effects.proofs.group.step_index.Kinds as step_index
use Rattle.effects.proofs.group.step_index.Reads as step_index_reads
use Rattle.effects.proofs.group.input_output.Kinds as input_output
use Rattle.effects.proofs.group.input_output.Reads as input_output_reads
use Rattle.effects.proofs.ways.set_flags.Kinds as set_flags
use Rattle.effects.proofs.ways.set_flags.Reads as set_flags_reads
use Rattle.effects.proofs.ways.Taking.apply.Kinds as apply
use Rattle.effects.proofs.ways.Taking.apply.Reads as apply_reads
use Rattle.effects.proofs.ways.take.Kinds as take
use Rattle.effects.proofs.ways.take.Reads as take_reads
use Rattle.effects.proofs.ways.step_and_skip.Kinds as step_and_skip
use Rattle.effects.proofs.ways.step_and_skip.Reads as step_and_skip_reads
use Rattle.effects.proofs.ways.load_double.Kinds as load_double
use Rattle.effects.proofs.ways.load_double.Reads as load_double_reads
use Rattle.effects.proofs.ways.store_double.Kinds as store_double
use Rattle.effects.proofs.ways.store_double.Reads as store_double_reads
use Rattle.effects.proofs.ways.Source.value.Kinds as value_kinds
use Rattle.effects.proofs.ways.Source.value.Reads as value_reads
use Rattle.effects.proofs.ways.Addressing.address.Kinds as address_kinds
use Rattle.effects.proofs.ways.Addressing.address.Reads as address_reads
use Rattle.effects.proofs.ways.at_address.Kinds as at_address
use Rattle.effects.proofs.ways.at_address.Reads as at_address_reads

pub shift_place_tight : OneResult 0 shift_place.ps shift_place.r shift_place_reads.Post
shift_place_tight κs a x y s t p q = p ∙ sym q

pub alter_word_tight : OneResult 0 alter_word.ps alter_word.r alter_word_reads.Post
alter_word_tight κs a x y s t p q = p ∙ sym q

pub alter_extend_tight : OneResult 0 alter_extend.ps alter_extend.r alter_extend_reads.Post
alter_extend_tight κs a x y s t p q = p ∙ sym q

pub is_met_tight : OneResult 0 is_met.ps is_met.r is_met_reads.Post
is_met_tight κs a x y s t p q = p ∙ sym q

pub take_quotient_tight : OneResult 0 take_quotient.ps take_quotient.r take_quotient_reads.Post
take_quotient_tight κs a x y s t p q = p ∙ sym q

pub take_product_tight : OneResult 0 take_product.ps take_product.r take_product_reads.Post
take_product_tight κs a x y s t p q = p ∙ sym q

pub shift_rotate_tight : OneResult 0 shift_rotate.ps shift_rotate.r shift_rotate_reads.Post
shift_rotate_tight κs a x y s t p q = p ∙ sym q

pub alter_skip_tight : OneResult 0 alter_skip.ps alter_skip.r alter_skip_reads.Post
alter_skip_tight κs a x y s t p q = p ∙ sym q

pub long_rotate_tight : OneResult 0 long_rotate.ps long_rotate.r long_rotate_reads.Post
long_rotate_tight κs a x y s t p q = p ∙ sym q

pub copy_to_index_tight : OneResult 0 copy_to_index.ps copy_to_index.r copy_to_index_reads.Post
copy_to_index_tight κs a x y s t p q = p ∙ sym q

pub copy_from_index_tight : OneResult 0 copy_from_index.ps copy_from_index.r copy_from_index_reads.Post
copy_from_index_tight κs a x y s t p q = p ∙ sym q

pub exchange_tight : OneResult 0 exchange.ps exchange.r exchange_reads.Post
exchange_tight κs a x y s t p q = p ∙ sym q

pub step_index_tight : OneResult 0 step_index.ps step_index.r step_index_reads.Post
step_index_tight κs a x y s t p q = p ∙ sym q

pub input_output_tight : OneResult 0 input_output.ps input_output.r input_output_reads.Post
input_output_tight κs a x y s t p q = (ends_tight (p [] []) (q [] [])).0

pub set_flags_tight : OneResult 0 set_flags.ps set_flags.r set_flags_reads.Post
set_flags_tight κs a x y s t p q = p ∙ sym q

pub apply_tight : OneResult 0 apply.ps apply.r apply_reads.Post
apply_tight κs a x y s t p q = p ∙ sym q

pub take_tight : OneResult 2 take.ps take.r take_reads.Post
take_tight κs a x y s t p q = (ends_tight p q).0

pub step_and_skip_tight : OneMemory 2 step_and_skip.ps step_and_skip.r step_and_skip_reads.Post (λ κs s. s.1.1.1.1.0.now)
step_and_skip_tight κs a x y s t p q = ends_tight p q

pub load_double_tight : OneResult 2 load_double.ps load_double.r load_double_reads.Post
load_double_tight κs a x y s t p q = (ends_tight p q).0

pub store_double_tight : OneMemory 2 store_double.ps store_double.r store_double_reads.Post (λ κs s. s.1.1.1.1.0.now)
store_double_tight κs a x y s t p q = ends_tight p q

pub value_tight : OneResult 0 value_kinds.ps value_kinds.r value_reads.Post
value_tight κs a x y s t p q = p ∙ sym q

pub address_tight : OneResult 0 address_kinds.ps address_kinds.r address_reads.Post
address_tight κs a x y s t p q = p ∙ sym q

pub at_address_tight : OneMemory 2 at_address.ps at_address.r at_address_reads.Post (λ κs s. s.1.1.1.1.1.0.now)
at_address_tight κs a x y s t p q = ends_tight p q
