-- Signed overflow of a sum of two words is a carry into bit 15 that differs from the carry out of it. Assumes nothing.
use Rattle.std.proofs.Common.{◌≡◌, ℕ, ◌+◌, ◌%◌, ◌<◌, not, ltb, leb, ◌+ℤ◌, arith, w16}
use Rattle.std.proofs.lemmas.Bool.Decides.{nat_tests}
use mathlib.Core.Bool.{beq}
use Rattle.word.specs.Signed.{signed, within}
use Rattle.word.specs.Sums.{sum}

-- a wrapped sum is below a summand exactly where it carries
carried : (a b : ℕ) → a < 0o200000 → b < 0o200000 → ltb ((a + b) % 0o200000) a ≡ leb 0o200000 (a + b)
carried a b ha hb = grind (arith, nat_tests)

overflows : (a b : ℕ) → a < 0o200000 → b < 0o200000
    → not (beq (leb 0o100000 (a % 0o100000 + b % 0o100000)) (leb 0o200000 (a + b))) ≡ not (within w16 (signed w16 a +ℤ signed w16 b))
overflows a b ha hb = grind (arith, nat_tests)

-- the sum of the word layer, as a carry into bit 15 and a wrapped sum tell it
pub sum_is : (a b r : ℕ) → a < 0o200000 → b < 0o200000 → r ≡ (a + b) % 0o200000
    → record { word = r; carry = ltb r a; overflow = not (beq (leb 0o100000 (a % 0o100000 + b % 0o100000)) (ltb r a)) } ≡ sum a b
unfolding sum
sum_is a b r ha hb e = rw (e, carried a b ha hb, overflows a b ha hb)
