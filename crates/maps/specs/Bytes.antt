-- A 16-bit byte address: the word that holds the byte, and which half it is. Not here: the half itself (`Words.byte_of`).
-- Assumes nothing.
use Rattle.std.specs.Prelude.{ℕ, ◌/◌, ◌%◌, Bool, eqb}

-- the manual, Byte Manipulation: a byte address is twice its word address, and one more for the low byte
abbrev pub byte_word : ℕ → ℕ
byte_word address = address / 2

-- 01, LBT and SBT: "even is the high byte"
abbrev pub is_low_byte : ℕ → Bool
is_low_byte address = eqb (address % 2) 1
