-- What `{:06o}` and `{}` write of a word and of a bit: the digits of specs/Digits.
--     digits_same        six digits, each the number's, are the six of octal_digits
--     glyph              a digit is below ten
--     one, two .. six    the text of a number that has so many digits
--     octal_text         the text of a word
--     bit_text           the text of a bit, as a byte that is 1 or 0
-- Assumes nothing.
use mathlib.Core.Logic.{⊎_elim}
use mir.Val.{bool_byte}
use Rattle.std.proofs.Common.{◌≡◌, refl, ℕ, ◌+◌, ◌-◌, ◌/◌, ◌%◌, ◌^◌, ◌<◌, ◌≤◌, Bool, true, false, List, [], ◌∷◌, arith, eq-eqb, ne_eqb, ltb}
use Rattle.std.specs.Fmt.{digits, decimal, char_count, padded_integral, format_spec}
use Rattle.std.proofs.lemmas.Bool.{lt-ltb, cases_lt}
use Rattle.std.proofs.lemmas.Fmt.{decimal_digit}
use Rattle.octal.specs.Digits.{octal_digits, bit_digit}

-- what `{:06o}` writes
abbrev padded : ℕ → List ℕ
padded n = padded_integral (format_spec 32 0 4 6 (2 ^ 64 - 1)) false [] (digits 8 false n)

digits_same : (n a b c d e f : ℕ) → a ≡ n / 0o100000 % 8 → b ≡ n / 0o10000 % 8 → c ≡ n / 0o1000 % 8 → d ≡ n / 0o100 % 8 → e ≡ n / 0o10 % 8 → f ≡ n % 8
    → (48 + a) ∷ (48 + b) ∷ (48 + c) ∷ (48 + d) ∷ (48 + e) ∷ (48 + f) ∷ [] ≡ octal_digits n
digits_same n a b c d e f p q r s t u = rw (p, q, r, s, t, u) refl

-- a digit's byte is that of a decimal digit
glyph : (m : ℕ) → ltb (m % 8) 10 ≡ true
glyph m = lt-ltb (m % 8) 10 (omega arith)

one : (n : ℕ) → n < 0o10 → padded n ≡ octal_digits n
unfolding digits padded_integral char_count
one n h =
    rw (eq-eqb (n / 8) 0 (omega arith))
    (simp glyph (digits_same n 0 0 0 0 0 (n % 8) (omega arith) (omega arith) (omega arith) (omega arith) (omega arith) (omega arith)))

two : (n : ℕ) → 0o10 ≤ n → n < 0o100 → padded n ≡ octal_digits n
unfolding digits padded_integral char_count
two n l h =
    rw (
      ne_eqb (n / 8) 0 (omega arith),
      eq-eqb (n / 8 / 8) 0 (omega arith),
    )
    (simp glyph (digits_same n 0 0 0 0 (n / 8 % 8) (n % 8) (omega arith) (omega arith) (omega arith) (omega arith) (omega arith) (omega arith)))

three : (n : ℕ) → 0o100 ≤ n → n < 0o1000 → padded n ≡ octal_digits n
unfolding digits padded_integral char_count
three n l h =
    rw (
      ne_eqb (n / 8) 0 (omega arith),
      ne_eqb (n / 8 / 8) 0 (omega arith),
      eq-eqb (n / 8 / 8 / 8) 0 (omega arith),
    )
    (simp glyph (digits_same n 0 0 0 (n / 8 / 8 % 8) (n / 8 % 8) (n % 8) (omega arith) (omega arith) (omega arith) (omega arith) (omega arith) (omega arith)))

four : (n : ℕ) → 0o1000 ≤ n → n < 0o10000 → padded n ≡ octal_digits n
unfolding digits padded_integral char_count
four n l h =
    rw (
      ne_eqb (n / 8) 0 (omega arith),
      ne_eqb (n / 8 / 8) 0 (omega arith),
      ne_eqb (n / 8 / 8 / 8) 0 (omega arith),
      eq-eqb (n / 8 / 8 / 8 / 8) 0 (omega arith),
    )
    (simp glyph (digits_same n 0 0 (n / 8 / 8 / 8 % 8) (n / 8 / 8 % 8) (n / 8 % 8) (n % 8) (omega arith) (omega arith) (omega arith) (omega arith) (omega arith) (omega arith)))

five : (n : ℕ) → 0o10000 ≤ n → n < 0o100000 → padded n ≡ octal_digits n
unfolding digits padded_integral char_count
five n l h =
    rw (
      ne_eqb (n / 8) 0 (omega arith),
      ne_eqb (n / 8 / 8) 0 (omega arith),
      ne_eqb (n / 8 / 8 / 8) 0 (omega arith),
      ne_eqb (n / 8 / 8 / 8 / 8) 0 (omega arith),
      eq-eqb (n / 8 / 8 / 8 / 8 / 8) 0 (omega arith),
    )
    (simp glyph (digits_same n 0 (n / 8 / 8 / 8 / 8 % 8) (n / 8 / 8 / 8 % 8) (n / 8 / 8 % 8) (n / 8 % 8) (n % 8) (omega arith) (omega arith) (omega arith) (omega arith) (omega arith) (omega arith)))

six : (n : ℕ) → 0o100000 ≤ n → n < 0o200000 → padded n ≡ octal_digits n
unfolding digits padded_integral char_count
six n l h =
    rw (
      ne_eqb (n / 8) 0 (omega arith),
      ne_eqb (n / 8 / 8) 0 (omega arith),
      ne_eqb (n / 8 / 8 / 8) 0 (omega arith),
      ne_eqb (n / 8 / 8 / 8 / 8) 0 (omega arith),
      ne_eqb (n / 8 / 8 / 8 / 8 / 8) 0 (omega arith),
      eq-eqb (n / 8 / 8 / 8 / 8 / 8 / 8) 0 (omega arith),
    )
    (simp glyph (digits_same n (n / 8 / 8 / 8 / 8 / 8 % 8) (n / 8 / 8 / 8 / 8 % 8) (n / 8 / 8 / 8 % 8) (n / 8 / 8 % 8) (n / 8 % 8) (n % 8) (omega arith) (omega arith) (omega arith) (omega arith) (omega arith) (omega arith)))

pub octal_text : (n : ℕ) → n < 2 ^ 16 → padded n ≡ octal_digits n
octal_text n h =
    ⊎_elim (λ a. one n a)
    (λ a. ⊎_elim (λ b. two n a b)
    (λ b. ⊎_elim (λ c. three n b c)
    (λ c. ⊎_elim (λ d. four n c d) (λ d. ⊎_elim (λ e. five n d e) (λ e. six n e h) (cases_lt n 0o100000)) (cases_lt n 0o10000))
    (cases_lt n 0o1000)) (cases_lt n 0o100)) (cases_lt n 0o10)

pub bit_text : (b : Bool) → decimal (bool_byte b) ≡ bit_digit b ∷ []
bit_text true = decimal_digit 1 (omega arith)
bit_text false = decimal_digit 0 (omega arith)
