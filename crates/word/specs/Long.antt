-- 01, Long shifts: "of B,A by n from 1 to 16 (low four bits, 0 means 16) .. ASL keeps the sign; O is set when a lost bit
-- differs from it, otherwise cleared. ASR clears O." The other four keep O. B is the high word. In order: the count, the
-- double word, O. Not here: that i + j places are i places and then j (`Places` of proofs/). Assumes nothing.
use Rattle.std.specs.Prelude.{ℕ, ◌+◌, ◌-◌, ◌*◌, ◌/◌, ◌%◌, ◌^◌, Bool, false, cond, not, ◌==◌}
use Rattle.std.specs.Int.Signed.{shr_z}
use Rattle.word.specs.Words.{joined}
use Rattle.std.specs.Int.{w32}
use Rattle.word.specs.Signed.{signed, bits_of}
use Rattle.word.specs.declared.long.Long.{Long}
use Rattle.word.specs.declared.long.LongShift.{LongShift}
use Rattle.word.specs.declared.long.LongShift.TheVariants.{Asl, Lsl, Rrl, Asr, Lsr, Rrr}

-- "low four bits, 0 means 16"
abbrev pub places : ℕ → ℕ
places n = cond (n % 16 == 0) 16 (n % 16)

-- n places of the joined double word d; `shr_z` divides by a power of two and rounds down, which keeps the sign
unfoldable pub moved : LongShift → ℕ → ℕ → ℕ
moved Asl n d = d / 2 ^ 31 * 2 ^ 31 + d * 2 ^ n % 2 ^ 31
moved Lsl n d = d * 2 ^ n % 2 ^ 32
moved Rrl n d = d % 2 ^ (32 - n) * 2 ^ n + d / 2 ^ (32 - n)
moved Asr n d = bits_of w32 (shr_z (signed w32 d) (2 ^ n))
moved Lsr n d = d / 2 ^ n
moved Rrr n d = d % 2 ^ n * 2 ^ (32 - n) + d / 2 ^ n

-- ASL loses n bits, 30 down to 31 - n: are they other than n copies of the sign?
unfoldable pub loses : ℕ → ℕ → Bool
loses n d = not (d % 2 ^ 31 / 2 ^ (31 - n) == d / 2 ^ 31 * (2 ^ n - 1))

abbrev pub overflowed : LongShift → ℕ → ℕ → Bool → Bool
overflowed Asl n d o = loses n d
overflowed Lsl n d o = o
overflowed Rrl n d o = o
overflowed Asr n d o = false
overflowed Lsr n d o = o
overflowed Rrr n d o = o

abbrev pub long_shifted : LongShift → ℕ → ℕ → ℕ → Bool → Long
long_shifted kind n b a o =
    let d : ℕ = joined b a in
    let r : ℕ = moved kind (places n) d in
    record { b = r / 0o200000; a = r % 0o200000; o = overflowed kind (places n) d o }
