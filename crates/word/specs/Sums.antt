-- 01, Instructions built: "Adding wraps at 16 bits; E is set on a carry out of bit 15, O on signed overflow". One sum
-- serves ADA, ADB, INA, ISZ, ADX, ADY and the index steps; who sets E and O by it is the step's to say.
-- 01, Addresses and chains: "P and every sum that makes a word address keep 15 bits". Assumes nothing.
use Rattle.std.specs.Prelude.{ℕ, ◌+◌, ◌%◌, not, ◌+ℤ◌, nat_le}
use Rattle.std.specs.Int.{w16}
use Rattle.word.specs.Signed.{signed, within}
use Rattle.word.specs.declared.sums.Sum.{Sum}

unfoldable pub sum : ℕ → ℕ → Sum
sum a b = record { word = (a + b) % 0o200000; carry = nat_le 0o200000 (a + b); overflow = not (within w16 (signed w16 a +ℤ signed w16 b)) }

abbrev pub incremented : ℕ → Sum
incremented w = sum w 1

-- one less is the sum with all bits set
abbrev pub decremented : ℕ → Sum
decremented w = sum w 0o177777

abbrev pub address : ℕ → ℕ → ℕ
address a n = (a + n) % 0o100000
