-- Digits as bytes, in ASCII: 01, "six octal digits", "one digit".
--     octal_digit     the last octal digit of a number
--     octal_digits    a word's six, the most significant first
--     bit_digit       a bit's digit
-- Assumes nothing.
use Rattle.std.specs.Prelude.{ℕ, ◌+◌, ◌/◌, ◌%◌, Bool, cond, List, [], ◌∷◌}

abbrev pub octal_digit : ℕ → ℕ
octal_digit n = 48 + n % 8

abbrev pub octal_digits : ℕ → List ℕ
octal_digits w =
    octal_digit (w / 0o100000)
    ∷ octal_digit (w / 0o10000)
    ∷ octal_digit (w / 0o1000)
    ∷ octal_digit (w / 0o100)
    ∷ octal_digit (w / 0o10)
    ∷ octal_digit w
    ∷ []

abbrev pub bit_digit : Bool → ℕ
bit_digit b = cond b 49 48
