-- Each promise fixes its outcome: two outcomes that satisfy a function's own contract, as its `Reads` has it, are equal. The
-- statements are of the word layer and the crate `acts`. In the order of src/: strings, moves.
-- Assumes nothing.
use Rattle.std.proofs.Common.{sym, ◌∙◌}
use Rattle.word.proofs.Tight.{OneResult}
use Rattle.acts.proofs.Tight.{OneMemory, ends_tight, gives_tight}
use Rattle.strings.proofs.strings.Element.word_at.Kinds as word_at
use Rattle.strings.proofs.strings.Element.word_at.Reads as word_at_reads
use Rattle.strings.proofs.strings.Element.along.Kinds as along
use Rattle.strings.proofs.strings.Element.along.Reads as along_reads
use Rattle.strings.proofs.strings.Element.load.Kinds as load
use Rattle.strings.proofs.strings.Element.load.Reads as load_reads
use Rattle.strings.proofs.strings.is_none.Kinds as is_none
use Rattle.strings.proofs.strings.is_none.Reads as is_none_reads
use Rattle.strings.proofs.strings.count_at.Kinds as count_at
use Rattle.strings.proofs.strings.count_at.Reads as count_at_reads
use Rattle.strings.proofs.strings.load_byte.Kinds as load_byte
use Rattle.strings.proofs.strings.load_byte.Reads as load_byte_reads
use Rattle.strings.proofs.strings.store_byte.Kinds as store_byte_kinds
use Rattle.strings.proofs.strings.store_byte.Reads as store_byte_reads
use Rattle.strings.proofs.strings.compare_strings.Kinds as compare_strings
use Rattle.strings.proofs.strings.compare_strings.Reads as compare_strings_reads
use Rattle.strings.proofs.strings.compare.Kinds as compare
use Rattle.strings.proofs.strings.compare.Reads as compare_reads
use Rattle.strings.proofs.strings.mask_bits.Kinds as mask_bits
use Rattle.strings.proofs.strings.mask_bits.Reads as mask_bits_reads
use Rattle.strings.proofs.moves.move_string.Kinds as move_string
use Rattle.strings.proofs.moves.move_string.Reads as move_string_reads

pub word_at_tight : OneResult 0 word_at.ps word_at.r word_at_reads.Post
word_at_tight κs a x y s t p q = p ∙ sym q

pub along_tight : OneResult 0 along.ps along.r along_reads.Post
along_tight κs a x y s t p q = p ∙ sym q

pub load_tight : OneResult 2 load.ps load.r load_reads.Post
load_tight κs a x y s t p q = gives_tight x y p q

pub is_none_tight : OneResult 0 is_none.ps is_none.r is_none_reads.Post
is_none_tight κs a x y s t p q = p ∙ sym q

pub count_at_tight : OneResult 2 count_at.ps count_at.r count_at_reads.Post
count_at_tight κs a x y s t p q = gives_tight x y p q

pub load_byte_tight : OneResult 2 load_byte.ps load_byte.r load_byte_reads.Post
load_byte_tight κs a x y s t p q = (ends_tight p q).0

pub store_byte_tight : OneMemory 2 store_byte_kinds.ps store_byte_kinds.r store_byte_reads.Post (λ κs s. s.1.1.0.now)
store_byte_tight κs a x y s t p q = ends_tight p q

pub compare_strings_tight : OneResult 2 compare_strings.ps compare_strings.r compare_strings_reads.Post
compare_strings_tight κs a x y s t p q = (ends_tight p q).0

pub compare_tight : OneResult 2 compare.ps compare.r compare_reads.Post
compare_tight κs a x y s t p q = (ends_tight p q).0

pub mask_bits_tight : OneMemory 2 mask_bits.ps mask_bits.r mask_bits_reads.Post (λ κs s. s.1.1.1.0.now)
mask_bits_tight κs a x y s t p q = ends_tight p q

pub move_string_tight : OneMemory 2 move_string.ps move_string.r move_string_reads.Post (λ κs s. s.1.1.1.0.now)
move_string_tight κs a x y s t p q = ends_tight p q
