-- Laws of the signed reading, each stated once for every width. In order:
--     in_range, of_bits, of_value, one_word, sign_bit     the range; bits and value are inverse; one word for a value; the sign
--     ends                                                the range by its ends, -32,768 and 32,767 for a word
--     wider, read_wider                                   a word's value at 32 bits
-- Not here: quotients and products (`Quotients`). The definitions are in specs/ (`Signed`). Assumes nothing.
use Rattle.std.proofs.Common.{◌≡◌, ℕ, ◌-◌, ◌^◌, ◌<◌, Bool, true, false, not, ◌||◌, ltb, ℤ, pos, negsuc, sym, refl, ap, ◌∙◌, arith, pow_pos, w16, w32, SFits, ltb-true, lt-ltb}
use Rattle.std.proofs.lemmas.Bool.Decides.{nat_tests}
use mathlib.Core.Bool.{or-false}
use lib.Signed.{non_neg, lt_z}
use mir.Syntax.{Width}
use mir.Val.{bits, hbits}
use mir.ValLaws.{to_z-of_z, of_z-to_z, to_z-Fits}
use Rattle.word.specs.Signed.{signed, bits_of, within}

pub in_range : (w : Width) (n : ℕ) → n < 2 ^ bits w → within w (signed w n) ≡ true
in_range w n h = lt-ltb _ _ (to_z-Fits w n (record { fits = h })).sfits

pub of_bits : (w : Width) (n : ℕ) → n < 2 ^ bits w → bits_of w (signed w n) ≡ n
of_bits w n h = of_z-to_z w n (record { fits = h })

pub of_value : (w : Width) (z : ℤ) → within w z ≡ true → signed w (bits_of w z) ≡ z
of_value w z h = to_z-of_z w z (record { sfits = ltb-true _ _ h })

pub one_word : (w : Width) (n m : ℕ) → n < 2 ^ bits w → m < 2 ^ bits w → signed w n ≡ signed w m → n ≡ m
one_word w n m h k e = sym (of_bits w n h) ∙ ap (bits_of w) e ∙ of_bits w m k

pub sign_bit : (w : Width) (n : ℕ) → non_neg (signed w n) ≡ ltb n (2 ^ hbits w)
sign_bit w n = by (ltb n (2 ^ hbits w)) refl
  where
    by : (t : Bool) → ltb n (2 ^ hbits w) ≡ t → non_neg (signed w n) ≡ ltb n (2 ^ hbits w)
    by true e = rw e
    by false e = rw e

below : (n m : ℕ) → 0 < m → ltb n m ≡ not (ltb (m - 1) n)
below n m some = grind (arith, nat_tests)

pub ends : (w : Width) (z : ℤ) → within w z ≡ not (lt_z z (negsuc (2 ^ hbits w - 1)) || lt_z (pos (2 ^ hbits w - 1)) z)
ends w (pos n) = below n (2 ^ hbits w) (pow_pos (hbits w))
ends w (negsuc n) = below n (2 ^ hbits w) (pow_pos (hbits w)) ∙ ap not (sym (or-false _))

-- a word's value at 32 bits
pub wider : (z : ℤ) → SFits w16 z → SFits w32 z
wider z h = record { sfits = omega arith }

pub read_wider : (z : ℤ) → SFits w16 z → signed w32 (bits_of w32 (signed w16 (bits_of w16 z))) ≡ z
read_wider z h = rw (to_z-of_z w16 z h) (to_z-of_z w32 z (wider z h))
