-- The parts of a word, in order: a bit and what it weighs, the complement, the two bytes, the bits that a mask names; then
-- two words joined to a double word. Not here: AND, XOR, IOR and the setting of bits, which are the library's `bit_and`,
-- `bit_xor` and `bit_or` (`lib.Bits`). Assumes nothing.
use Rattle.std.specs.Prelude.{ℕ, ◌+◌, ◌-◌, ◌*◌, ◌/◌, ◌%◌, ◌^◌, Bool, cond, ◌==◌, bit_and}

-- bits are counted from 0 at the low end
abbrev pub bit : ℕ → ℕ → Bool
bit k w = w / 2 ^ k % 2 == 1

-- what a bit weighs: 1 or 0
abbrev pub weight : Bool → ℕ
weight e = cond e 1 0

abbrev pub complemented : ℕ → ℕ
complemented w = 0o177777 - w

-- 01, LBT and SBT: "even is the high byte"; the odd byte is the low one
abbrev pub byte_of : Bool → ℕ → ℕ
byte_of odd w = cond odd (w % 256) (w / 256)

abbrev pub with_byte : Bool → ℕ → ℕ → ℕ
with_byte odd w x = cond odd (w / 256 * 256 + x) (x * 256 + w % 256)

-- 01, CBS: the bits of the mask are cleared
abbrev pub bits_cleared : ℕ → ℕ → ℕ
bits_cleared mask w = bit_and w (complemented mask)

-- 01: "TBS skips unless every masked bit is set"
abbrev pub every_bit_set : ℕ → ℕ → Bool
every_bit_set mask w = bit_and w mask == mask

-- the first word is the high one
abbrev pub joined : ℕ → ℕ → ℕ
joined b a = b * 0o200000 + a
