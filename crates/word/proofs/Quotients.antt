-- Laws of the quotient toward zero and its remainder, and of the answers of MPY and DIV. In order:
--     again, remainder_sign, remainder_size, toward_zero           quotient times divisor plus remainder is the dividend; the
--                                                                  remainder's sign and size; the quotient's size
--     product_fits, quotient_fits, remainder_fits                  what fits a width
--     Divides, quotient_value, divided_value, multiplied_value     the answers, read as values
-- Not here: the signed reading (`Signed`); both ends of the range and 01's cases, computed (`Cases`). The definitions are in
-- specs/ (`Products`). Assumes nothing.
use Rattle.std.proofs.Common.{◌≡◌, ℕ, zero, suc, ◌-◌, ◌/◌, ◌%◌, ◌^◌, ◌<◌, ◌≤◌, Bool, true, false, cond, not, ◌&&◌, eqb, ◌⊎◌, ℤ, pos, negsuc, ◌+ℤ◌, ◌*ℤ◌, neg_ℤ, nat_abs, sym, refl, ap, ◌∙◌, inl, inr, zero-lt-suc, div-add-mod', div-le_self, arith, w16, w32, SFits, Some, None}
use Rattle.std.proofs.lemmas.Int.{quot-rem, rem_below, fits_signed_mul, fits_signed_from_abs}
use native.Mathlib.Nat.{div-lt_self}
use Rattle.std.proofs.lemmas.Bool.{and_parts, not-true, eqb-false}
use lib.Signed.{mag, non_neg, quot_z, rem_z, nat_abs-le}
use mir.Syntax.{Width}
use mir.Val.{hbits}
use mir.ValLaws.{to_z-Fits, to_z-of_z}
use Rattle.word.specs.Words.{joined}
use Rattle.word.specs.Signed.{signed, bits_of, within}
use Rattle.word.specs.Products.{multiplied, quotient_of, divided}
use Rattle.word.specs.declared.products.Quotient.{Quotient}
use Rattle.word.proofs.Signed.{of_value, one_word}

-- quotient times divisor plus remainder is the dividend
pub again : (z k : ℤ) → quot_z z k *ℤ k +ℤ rem_z z k ≡ z
again z k = quot-rem z k

negated_size : (n : ℕ) → nat_abs (neg_ℤ (pos n)) ≡ n
negated_size zero = refl
negated_size (suc n) = refl

-- the remainder has the dividend's sign, or is 0
pub remainder_sign : (z k : ℤ) → (rem_z z k ≡ pos 0) ⊎ (non_neg (rem_z z k) ≡ non_neg z)
remainder_sign (pos a) k = inr refl
remainder_sign (negsuc a) k = by (suc a % nat_abs k)
  where
    by : (r : ℕ) → (neg_ℤ (pos r) ≡ pos 0) ⊎ (non_neg (neg_ℤ (pos r)) ≡ false)
    by zero = inl refl
    by (suc r) = inr refl

-- and is smaller than the divisor
pub remainder_size : (z k : ℤ) → (k ≡ pos 0 → ⊥) → nat_abs (rem_z z k) < nat_abs k
remainder_size z k h = rem_below z k (some k h)
  where
    some : (k : ℤ) → (k ≡ pos 0 → ⊥) → 0 < nat_abs k
    some (pos zero) h = absurd (h refl)
    some (pos (suc n)) h = zero-lt-suc n
    some (negsuc n) h = zero-lt-suc n

pub toward_zero : (z k : ℤ) → nat_abs (quot_z z k) ≡ nat_abs z / nat_abs k
toward_zero (pos a) (pos b) = refl
toward_zero (pos a) (negsuc b) = negated_size (a / suc b)
toward_zero (negsuc a) (pos b) = negated_size (suc a / b)
toward_zero (negsuc a) (negsuc b) = refl

-- ---- what fits

pub product_fits : (x y : ℤ) → SFits w16 x → SFits w16 y → SFits w32 (x *ℤ y)
product_fits x y h k = fits_signed_mul w32 x y (2 ^ 15) (2 ^ 15) (nat_abs-le x h.sfits) (nat_abs-le y k.sfits) (omega arith)

negated_mag : (n a : ℕ) → n ≤ suc a → mag (neg_ℤ (pos n)) ≤ a
negated_mag zero a h = omega arith
negated_mag (suc n) a h = omega arith

-- of all quotients of two values of a width only that of the lowest by -1 is outside it
pub quotient_fits : (w : Width) (z k : ℤ) → SFits w z → (z ≡ negsuc (2 ^ hbits w - 1) → k ≡ negsuc 0 → ⊥) → SFits w (quot_z z k)
quotient_fits w (pos a) (pos b) h except = record { sfits = omega (arith, div-le_self a b) }
quotient_fits w (pos a) (negsuc b) h except = record { sfits = omega (arith, negated_mag (a / suc b) a (omega (arith, div-le_self a (suc b)))) }
quotient_fits w (negsuc a) (pos b) h except = record { sfits = omega (arith, negated_mag (suc a / b) a (div-le_self (suc a) b)) }
quotient_fits w (negsuc a) (negsuc zero) h except =
    let other : a ≡ 2 ^ hbits w - 1 → ⊥ = λ e. except (ap negsuc e) refl in record { sfits = omega arith }
quotient_fits w (negsuc a) (negsuc (suc b)) h except = record { sfits = omega (arith, div-lt_self {n = suc a} {k = suc (suc b)} (omega arith) (omega arith)) }

pub remainder_fits : (w : Width) (z k : ℤ) → SFits w k → (k ≡ pos 0 → ⊥) → SFits w (rem_z z k)
remainder_fits w z k h except = fits_signed_from_abs w (rem_z z k) (omega (arith, remainder_size z k except, nat_abs-le k h.sfits))

-- ---- the answers, as values

-- q and r are quotient toward zero and remainder of z by k
pub record Divides (z k q r : ℤ) : Type 0 where
  pub dividend : q *ℤ k +ℤ r ≡ z
  pub sign : (r ≡ pos 0) ⊎ (non_neg r ≡ non_neg z)
  pub size : nat_abs r < nat_abs k

quotient_value : (z k : ℤ) (q r : ℕ) → SFits w16 k → (k ≡ pos 0 → ⊥) → within w16 (quot_z z k) ≡ true
    → quotient_of z k ≡ Some (record { quotient = q; remainder = r }) → Divides z k (signed w16 q) (signed w16 r)
quotient_value z k q r k-fits other q-fits e =
    let is : ◌≡◌ {A = Quotient} (record { quotient = bits_of w16 (quot_z z k); remainder = bits_of w16 (rem_z z k) }) (record { quotient = q; remainder = r }) = cc in
    let q-is : bits_of w16 (quot_z z k) ≡ q = ap (λ (x : Quotient). x.quotient) is in
    let r-is : bits_of w16 (rem_z z k) ≡ r = ap (λ (x : Quotient). x.remainder) is in
    rw (← q-is, ← r-is, of_value w16 (quot_z z k) q-fits, to_z-of_z w16 _ (remainder_fits w16 z k k-fits other))
    (record { dividend = again z k; sign = remainder_sign z k; size = remainder_size z k other })

-- what a test lets through
pub held : {A : Type 0} {x y : A} (t : Bool) → Some y ≡ cond t (Some x) None → (t ≡ true) × (y ≡ x)
held true e = (refl, cc)
held false e = let z : ◌≡◌ {A = ℕ} 0 1 = cc in absurd (omega arith)

pub divided_value : (b a m : ℕ) (x : Quotient) → m < 2 ^ 16 → divided b a m ≡ Some x
    → Divides (signed w32 (joined b a)) (signed w16 m) (signed w16 x.quotient) (signed w16 x.remainder)
unfolding divided
divided_value b a m x m-fits e =
    let z : ℤ = signed w32 (joined b a) in
    let k : ℤ = signed w16 m in
    let tested : (not (eqb m 0) && within w16 (quot_z z k) ≡ true) × (x ≡ record { quotient = bits_of w16 (quot_z z k); remainder = bits_of w16 (rem_z z k) })
    = held (not (eqb m 0) && within w16 (quot_z z k)) (sym e) in
    let parts : (not (eqb m 0) ≡ true) × (within w16 (quot_z z k) ≡ true) = and_parts _ _ tested.0 in
    let some : k ≡ pos 0 → ⊥ = λ h. eqb-false m 0 (not-true _ parts.0) (one_word w16 m 0 m-fits (omega arith) h) in
    quotient_value z k x.quotient x.remainder (to_z-Fits w16 m (record { fits = m-fits })) some parts.1 (ap Some (sym tested.1))

pub multiplied_value : (a m : ℕ) → a < 2 ^ 16 → m < 2 ^ 16
    → signed w32 (joined (multiplied a m).b (multiplied a m).a) ≡ signed w16 a *ℤ signed w16 m
unfolding multiplied
multiplied_value a m a-fits m-fits =
    ap (signed w32) (div-add-mod' (bits_of w32 (signed w16 a *ℤ signed w16 m)) 0o200000)
    ∙ to_z-of_z w32 _ (product_fits _ _ (to_z-Fits w16 a (record { fits = a-fits })) (to_z-Fits w16 m (record { fits = m-fits })))
