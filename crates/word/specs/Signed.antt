-- The signed value of a word or a double word, the bits of a value, and the values that have them: the language's own
-- reading, for any width, `w16` and `w32` here. With the sign bit clear a word is its own value, `pos n`; with all bits set
-- it is -1, `negsuc 0`. The laws (range, one word for each value, the sign bit) are in proofs/ (`Signed`).
-- Assumes nothing.
use Rattle.std.specs.Prelude.{ℕ, ◌^◌, Bool, ℤ, nat_lt}
use Rattle.std.specs.Int.Signed.{mag}
use Rattle.std.specs.Int.{Width, cast_signed, cast_unsigned}
use mir.Val.{hbits}

abbrev pub signed : Width → ℕ → ℤ
signed w n = cast_signed w n

abbrev pub bits_of : Width → ℤ → ℕ
bits_of w z = cast_unsigned w z

-- from -2 ^ 15 to 2 ^ 15 - 1 for a word: `mag` is n both for n and for -(n + 1)
abbrev pub within : Width → ℤ → Bool
within w z = nat_lt (mag z) (2 ^ hbits w)
