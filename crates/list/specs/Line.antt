-- What a listing prints: 01, "The listing program".
--     header     its first line
--     spaced     bytes after a space
--     line_of    its second line, of a run
--     listing    both, of an image's bytes
-- Assumes nothing.
use Rattle.std.specs.Prelude.{ℕ, List, [], ◌∷◌, ◌++◌}
use Rattle.octal.specs.Digits.{octal_digits, bit_digit}
use Rattle.acts.specs.Replies.{number}
use Rattle.acts.specs.declared.replies.Ran.{Ran}
use Rattle.list.specs.Image.{listed}
use Rattle.list.specs.Text.{quoted, decimal_digits}

abbrev pub header : List ℕ
header = quoted "answer steps P A B E O\n"

abbrev pub spaced : List ℕ → List ℕ
spaced l = quoted " " ++ l

-- "Answer and steps are decimal, P, A, B six octal digits, E and O one digit"
unfoldable pub line_of : Ran → List ℕ
line_of s =
    decimal_digits (number s.reply)
    ++ spaced (decimal_digits s.count)
    ++ spaced (octal_digits s.registers.p)
    ++ spaced (octal_digits s.registers.a)
    ++ spaced (octal_digits s.registers.b)
    ++ spaced (bit_digit s.registers.e ∷ [])
    ++ spaced (bit_digit s.registers.o ∷ [])
    ++ quoted "\n"

unfoldable pub listing : List ℕ → List ℕ
listing bytes = header ++ line_of (listed bytes)
