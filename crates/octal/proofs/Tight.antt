-- Each promise fixes its result: two results that satisfy a function's own contract, as its `Reads` has it, are equal.
-- In the order of src/. What a word and a bit print is the `output` of their types, and read_full's bounds what it read.
-- Assumes nothing.
use mathlib.Core.Path.{sym, ◌∙◌}
use Rattle.word.proofs.Tight.{OneResult}
use Rattle.octal.proofs.word_digits.Kinds as word_digits
use Rattle.octal.proofs.word_digits.Reads as word_digits_reads
use Rattle.octal.proofs.bit_digit.Kinds as bit_digit
use Rattle.octal.proofs.bit_digit.Reads as bit_digit_reads

pub word_digits_tight : OneResult 0 word_digits.ps word_digits.r word_digits_reads.Post
word_digits_tight κs a x y s t p q = p ∙ sym q

pub bit_digit_tight : OneResult 0 bit_digit.ps bit_digit.r bit_digit_reads.Post
bit_digit_tight κs a x y s t p q = p ∙ sym q
