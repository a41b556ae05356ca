-- Each promise fixes its result: two results that satisfy a function's own contract, as its `Reads` has it, are equal.
--     OneResult    what that says of a contract whose function lends nothing to be written
-- Then a theorem for each public function, by module: sums, shifts, long, bits, values, products, orders.
-- Assumes nothing.
use Rattle.std.proofs.Common.{◌≡◌, ℕ, List, sym, ◌∙◌}
use borrow.Fn.Kinds.{ParamKind, ResultKind, Out, ended_of, res_t, Dens}
use denote.Triple.Clauses.{AtExit}
use contract.Lifetimes.{Lfts}
use Rattle.word.proofs.sums.add.Kinds as add
use Rattle.word.proofs.sums.add.Reads as add_reads
use Rattle.word.proofs.sums.increment.Kinds as increment
use Rattle.word.proofs.sums.increment.Reads as increment_reads
use Rattle.word.proofs.sums.decrement.Kinds as decrement
use Rattle.word.proofs.sums.decrement.Reads as decrement_reads
use Rattle.word.proofs.sums.past.Kinds as past
use Rattle.word.proofs.sums.past.Reads as past_reads
use Rattle.word.proofs.shifts.shift.Kinds as shift
use Rattle.word.proofs.shifts.shift.Reads as shift_reads
use Rattle.word.proofs.shifts.pass.Kinds as pass
use Rattle.word.proofs.shifts.pass.Reads as pass_reads
use Rattle.word.proofs.long.long_shift.Kinds as long_shift
use Rattle.word.proofs.long.long_shift.Reads as long_shift_reads
use Rattle.word.proofs.bits.weight_of.Kinds as weight_of
use Rattle.word.proofs.bits.weight_of.Reads as weight_of_reads
use Rattle.word.proofs.bits.both.Kinds as both
use Rattle.word.proofs.bits.both.Reads as both_reads
use Rattle.word.proofs.bits.either.Kinds as either
use Rattle.word.proofs.bits.either.Reads as either_reads
use Rattle.word.proofs.bits.differing.Kinds as differing
use Rattle.word.proofs.bits.differing.Reads as differing_reads
use Rattle.word.proofs.bits.complement.Kinds as complement
use Rattle.word.proofs.bits.complement.Reads as complement_reads
use Rattle.word.proofs.bits.byte_of.Kinds as byte_of
use Rattle.word.proofs.bits.byte_of.Reads as byte_of_reads
use Rattle.word.proofs.bits.with_byte.Kinds as with_byte
use Rattle.word.proofs.bits.with_byte.Reads as with_byte_reads
use Rattle.word.proofs.bits.clear_bits.Kinds as clear_bits
use Rattle.word.proofs.bits.clear_bits.Reads as clear_bits_reads
use Rattle.word.proofs.bits.every_bit_set.Kinds as every_bit_set
use Rattle.word.proofs.bits.every_bit_set.Reads as every_bit_set_reads
use Rattle.word.proofs.values.word_value.Kinds as word_value
use Rattle.word.proofs.values.word_value.Reads as word_value_reads
use Rattle.word.proofs.values.double_value.Kinds as double_value
use Rattle.word.proofs.values.double_value.Reads as double_value_reads
use Rattle.word.proofs.values.double_bits.Kinds as double_bits
use Rattle.word.proofs.values.double_bits.Reads as double_bits_reads
use Rattle.word.proofs.values.join.Kinds as join
use Rattle.word.proofs.values.join.Reads as join_reads
use Rattle.word.proofs.products.multiply.Kinds as multiply
use Rattle.word.proofs.products.multiply.Reads as multiply_reads
use Rattle.word.proofs.products.divide.Kinds as divide
use Rattle.word.proofs.products.divide.Reads as divide_reads
use Rattle.word.proofs.orders.compare_words.Kinds as compare_words
use Rattle.word.proofs.orders.compare_words.Reads as compare_words_reads
use Rattle.word.proofs.orders.compare_bytes.Kinds as compare_bytes
use Rattle.word.proofs.orders.compare_bytes.Reads as compare_bytes_reads

abbrev pub OneResult : (n : ℕ) (ps : List (ParamKind n)) (r : ResultKind n) → Out n ps r → Type 0
OneResult n ps r Post = (κs : Lfts n) (a : Dens κs ps) (x y : (res_t r κs).Denot) (s t : AtExit (ended_of n ps r) κs) → Post κs a x s → Post κs a y t → x ≡ y

pub add_tight : OneResult 0 add.ps add.r add_reads.Post
add_tight κs a x y s t p q = p ∙ sym q

pub increment_tight : OneResult 0 increment.ps increment.r increment_reads.Post
increment_tight κs a x y s t p q = p ∙ sym q

pub decrement_tight : OneResult 0 decrement.ps decrement.r decrement_reads.Post
decrement_tight κs a x y s t p q = p ∙ sym q

pub past_tight : OneResult 0 past.ps past.r past_reads.Post
past_tight κs a x y s t p q = p ∙ sym q

pub shift_tight : OneResult 0 shift.ps shift.r shift_reads.Post
shift_tight κs a x y s t p q = p ∙ sym q

pub pass_tight : OneResult 0 pass.ps pass.r pass_reads.Post
pass_tight κs a x y s t p q = p ∙ sym q

pub long_shift_tight : OneResult 0 long_shift.ps long_shift.r long_shift_reads.Post
long_shift_tight κs a x y s t p q = p ∙ sym q

pub weight_of_tight : OneResult 0 weight_of.ps weight_of.r weight_of_reads.Post
weight_of_tight κs a x y s t p q = p ∙ sym q

pub both_tight : OneResult 0 both.ps both.r both_reads.Post
both_tight κs a x y s t p q = p ∙ sym q

pub either_tight : OneResult 0 either.ps either.r either_reads.Post
either_tight κs a x y s t p q = p ∙ sym q

pub differing_tight : OneResult 0 differing.ps differing.r differing_reads.Post
differing_tight κs a x y s t p q = p ∙ sym q

pub complement_tight : OneResult 0 complement.ps complement.r complement_reads.Post
complement_tight κs a x y s t p q = p ∙ sym q

pub byte_of_tight : OneResult 0 byte_of.ps byte_of.r byte_of_reads.Post
byte_of_tight κs a x y s t p q = p ∙ sym q

pub with_byte_tight : OneResult 0 with_byte.ps with_byte.r with_byte_reads.Post
with_byte_tight κs a x y s t p q = p ∙ sym q

pub clear_bits_tight : OneResult 0 clear_bits.ps clear_bits.r clear_bits_reads.Post
clear_bits_tight κs a x y s t p q = p ∙ sym q

pub every_bit_set_tight : OneResult 0 every_bit_set.ps every_bit_set.r every_bit_set_reads.Post
every_bit_set_tight κs a x y s t p q = p ∙ sym q

pub word_value_tight : OneResult 0 word_value.ps word_value.r word_value_reads.Post
word_value_tight κs a x y s t p q = p ∙ sym q

pub double_value_tight : OneResult 0 double_value.ps double_value.r double_value_reads.Post
double_value_tight κs a x y s t p q = p ∙ sym q

pub double_bits_tight : OneResult 0 double_bits.ps double_bits.r double_bits_reads.Post
double_bits_tight κs a x y s t p q = p ∙ sym q

pub join_tight : OneResult 0 join.ps join.r join_reads.Post
join_tight κs a x y s t p q = p ∙ sym q

pub multiply_tight : OneResult 0 multiply.ps multiply.r multiply_reads.Post
multiply_tight κs a x y s t p q = p ∙ sym q

pub divide_tight : OneResult 0 divide.ps divide.r divide_reads.Post
divide_tight κs a x y s t p q = p ∙ sym q

pub compare_words_tight : OneResult 0 compare_words.ps compare_words.r compare_words_reads.Post
compare_words_tight κs a x y s t p q = p ∙ sym q

pub compare_bytes_tight : OneResult 0 compare_bytes.ps compare_bytes.r compare_bytes_reads.Post
compare_bytes_tight κs a x y s t p q = p ∙ sym q
