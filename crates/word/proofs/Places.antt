-- The places of a long shift. First what each kind needs: LSL and ASL `left`, ASR `shr_shr_z`, the rotates `around_left` and
-- `around_right`, O `lost`. Then the laws: to go i + j places is to go i and then j, of the double word (`moved_add`) and of
-- O (`overflowed_add`), and to go none changes nothing (`moved_none`, `overflowed_none`). Assumes nothing.
use Rattle.std.proofs.Common.{◌≡◌, ℕ, zero, suc, ◌+◌, ◌-◌, ◌*◌, ◌/◌, ◌%◌, ◌^◌, ◌<◌, ◌≤◌, Bool, true, false, not, ◌&&◌, ◌||◌, eqb, ℤ, pos, negsuc, sym, refl, ap, ◌∙◌, mod-lt, one-mul, div-add-mod', zero-mul, div-one, arith, pow_pos, pow-add, shr-shr, shr_lt, w32, Fits, SFits, to_z, of_z, eq-eqb, ne_eqb, eqb-true}
use mathlib.Core.Path.{subst⁻¹}
use mathlib.Core.Bool.{or-false}
use native.Mathlib.Nat.{zero-div, zero-mod, div-div-eq-div-mul, mul-div-mul_right}
use Rattle.std.proofs.lemmas.Nat.{mul-mod_first}
use lib.Arith.{digits_div, digits_mod, digits_lt, mul_pred}
use lib.Pow.{field}
use lib.Signed.{shr_z, mag_shr}
use borrow.Author.Tests.{eqb-false}
use mir.Syntax.{Width}
use mir.ValLaws.{to_z-of_z, of_z-to_z, to_z-Fits, sfits_le}
use Rattle.word.specs.Long.{moved, loses, overflowed}
use Rattle.word.specs.declared.long.LongShift.{LongShift}
use Rattle.word.specs.declared.long.LongShift.TheVariants.{Asl, Lsl, Rrl, Asr, Lsr, Rrr}

-- ---- to the left

left : (k d i j : ℕ) → d * 2 ^ (i + j) % k ≡ d * 2 ^ i % k * 2 ^ j % k
left k d i j =
    let e : d * 2 ^ (i + j) ≡ d * 2 ^ i * 2 ^ j = omega (arith, ap (λ (t : ℕ). d * t) (pow-add 2 i j)) in
    ap (λ (t : ℕ). t % k) e ∙ sym (mul-mod_first (d * 2 ^ i) (2 ^ j) k)

-- ---- to the right, with the sign

shr_none_z : (z : ℤ) → shr_z z 1 ≡ z
shr_none_z (pos n) = ap pos (div-one n)
shr_none_z (negsuc n) = ap negsuc (div-one n)

shr_shr_z : (z : ℤ) (m k : ℕ) → shr_z (shr_z z m) k ≡ shr_z z (m * k)
shr_shr_z (pos n) m k = ap pos (div-div-eq-div-mul n m k)
shr_shr_z (negsuc n) m k = ap negsuc (div-div-eq-div-mul n m k)

-- ---- around: the part below L goes up by H, the part above comes down

abbrev turn : ℕ → ℕ → ℕ → ℕ
turn H L d = d % L * H + d / L

turned : (H X : ℕ) {L Z : ℕ} → Z < L → turn H L (X * L + Z) ≡ Z * H + X
turned H X {L} {Z} h = rw (digits_div X h, digits_mod X h) refl

module _ (A : ℕ) {B C : ℕ} (hB : 0 < B) (hC : 0 < C) (d : ℕ) where
  -- d as three digits, x above B * C, y above C, z below
  abbrev x : ℕ
  x = d / C / B

  abbrev y : ℕ
  y = d / C % B

  abbrev z : ℕ
  z = d % C

  d_low : d ≡ (x * B + y) * C + z
  d_low = sym (div-add-mod' d C) ∙ ap (λ (t : ℕ). t * C + z) (sym (div-add-mod' (d / C) B))

  d_high : d ≡ x * (B * C) + (y * C + z)
  d_high = omega (arith, d_low)

  turn_low : turn (A * B) C d ≡ z * (A * B) + (x * B + y)
  turn_low = ap (turn (A * B) C) d_low ∙ turned (A * B) (x * B + y) (mod-lt d hC)

  turn_high : turn A (B * C) d ≡ (y * C + z) * A + x
  turn_high = ap (turn A (B * C)) d_high ∙ turned A x (digits_lt (mod-lt (d / C) hB) (mod-lt d hC))

  around_right : turn A (B * C) d ≡ turn (C * A) B (turn (A * B) C d)
  around_right =
      let e : turn (A * B) C d ≡ (z * A + x) * B + y = omega (arith, turn_low) in
      let f : turn (C * A) B (turn (A * B) C d) ≡ y * (C * A) + (z * A + x)
      = ap (turn (C * A) B) e ∙ turned (C * A) (z * A + x) (mod-lt (d / C) hB) in
      omega (arith, turn_high, f)

  around_left : x < A → turn (A * B) C d ≡ turn B (C * A) (turn A (B * C) d)
  around_left h =
      let e : turn A (B * C) d ≡ y * (C * A) + (z * A + x) = omega (arith, turn_high) in
      let f : turn B (C * A) (turn A (B * C) d) ≡ (z * A + x) * B + y
      = ap (turn B (C * A)) e ∙ turned B y (digits_lt (mod-lt d hC) h) in
      omega (arith, turn_low, f)

-- ---- O: the lost bits as two digits

-- two numbers are equal where their digits are
digits : (a b B : ℕ) → eqb a b ≡ (eqb (a / B) (b / B) && eqb (a % B) (b % B))
digits a b B = at (eqb (a / B) (b / B)) (eqb (a % B) (b % B)) refl refl
  where
    at : (q r : Bool) → eqb (a / B) (b / B) ≡ q → eqb (a % B) (b % B) ≡ r → eqb a b ≡ (q && r)
    at false r hq hr = ne_eqb a b (λ e. eqb-false _ _ hq (ap (λ (t : ℕ). t / B) e))
    at true false hq hr = ne_eqb a b (λ e. eqb-false _ _ hr (ap (λ (t : ℕ). t % B) e))
    at true true hq hr = eq-eqb a b (cc (div-add-mod' a B, div-add-mod' b B, eqb-true (a / B) (b / B) hq, eqb-true (a % B) (b % B) hr))

-- the digits of all ones, or of 0
copies : (s : ℕ) {A B : ℕ} → s < 2 → 0 < A → 0 < B
    → (s * (A * B - 1) / B ≡ s * (A - 1)) × (s * (A * B - 1) % B ≡ s * (B - 1))
copies zero h hA hB = (simp (zero-mul, zero-div), simp (zero-mul, zero-mod))
copies (suc zero) {A} {B} h hA hB =
    let l : B - 1 < B = omega arith in
    (simp (one-mul, mul_pred hA hB, digits_div (A - 1) l), simp (one-mul, mul_pred hA hB, digits_mod (A - 1) l))
copies (suc (suc s)) h hA hB = absurd (omega arith)

not_and : (a b : Bool) → not (a && b) ≡ (not a || not b)
not_and true b = refl
not_and false b = refl

-- the digits of the lost bits L, against those of copies of the sign
lost : (s L : ℕ) {A B : ℕ} → s < 2 → 0 < A → 0 < B
    → not (eqb L (s * (A * B - 1))) ≡ (not (eqb (L / B) (s * (A - 1))) || not (eqb (L % B) (s * (B - 1))))
lost s L {A} {B} h hA hB =
    let k : (s * (A * B - 1) / B ≡ s * (A - 1)) × (s * (A * B - 1) % B ≡ s * (B - 1)) = copies s h hA hB in
    rw (digits L (s * (A * B - 1)) B, k.0, k.1) (not_and (eqb (L / B) (s * (A - 1))) (eqb (L % B) (s * (B - 1))))

-- ---- the laws

power : (k i j : ℕ) → k ≡ i + j → 2 ^ k ≡ 2 ^ i * 2 ^ j
power k i j e = ap (λ (t : ℕ). 2 ^ t) e ∙ pow-add 2 i j

asl_high : (i d : ℕ) → moved Asl i d / 2 ^ 31 ≡ d / 2 ^ 31
unfolding moved
asl_high i d = omega arith

asl_low : (i d : ℕ) → moved Asl i d % 2 ^ 31 ≡ d * 2 ^ i % 2 ^ 31
unfolding moved
asl_low i d = omega arith

asr : (w : Width) (n i j : ℕ) → Fits w n
    → of_z w (shr_z (to_z w n) (2 ^ (i + j))) ≡ of_z w (shr_z (to_z w (of_z w (shr_z (to_z w n) (2 ^ i)))) (2 ^ j))
asr w n i j f =
    let g : SFits w (shr_z (to_z w n) (2 ^ i)) = sfits_le (mag_shr (to_z w n) (2 ^ i)) (to_z-Fits w n f) in
    ap (of_z w) (ap (shr_z (to_z w n)) (pow-add 2 i j) ∙ sym (shr_shr_z (to_z w n) (2 ^ i) (2 ^ j))
    ∙ ap (λ (z : ℤ). shr_z z (2 ^ j)) (sym (to_z-of_z w (shr_z (to_z w n) (2 ^ i)) g)))

pub moved_none : (kind : LongShift) (d : ℕ) → d < 2 ^ 32 → moved kind 0 d ≡ d
unfolding moved
moved_none Asl d h = omega arith
moved_none Lsl d h = omega arith
moved_none Rrl d h = omega arith
moved_none Asr d h = ap (of_z w32) (shr_none_z (to_z w32 d)) ∙ of_z-to_z w32 d (record { fits = h })
moved_none Lsr d h = omega arith
moved_none Rrr d h = omega arith

pub moved_add : (kind : LongShift) (i j d : ℕ) → i + j ≤ 32 → d < 2 ^ 32 → moved kind (i + j) d ≡ moved kind j (moved kind i d)
unfolding moved
moved_add Asl i j d l h =
    let e : moved Asl i d * 2 ^ j % 2 ^ 31 ≡ d * 2 ^ (i + j) % 2 ^ 31
    = sym (mul-mod_first (moved Asl i d) (2 ^ j) (2 ^ 31)) ∙ ap (λ (t : ℕ). t * 2 ^ j % 2 ^ 31) (asl_low i d) ∙ sym (left (2 ^ 31) d i j) in
    omega (arith, asl_high i d, e)
moved_add Lsl i j d l h = left (2 ^ 32) d i j
moved_add Rrl i j d l h =
    let c : ℕ = 32 - (i + j) in
    let e : i + (c + j) ≡ 32 = omega arith in
    let x : d / 2 ^ c / 2 ^ j < 2 ^ i = rw (shr-shr d c j) (shr_lt i (c + j) (subst⁻¹ (λ (t : ℕ). d < 2 ^ t) e h)) in
    rw (power (32 - i) j c (omega arith), power (32 - j) c i (omega arith), pow-add 2 i j)
    (around_left (2 ^ i) (pow_pos j) (pow_pos c) d x)
moved_add Asr i j d l h = asr w32 d i j (record { fits = h })
moved_add Lsr i j d l h = sym (shr-shr d i j)
moved_add Rrr i j d l h =
    let c : ℕ = 32 - (i + j) in
    rw (power (32 - i) c j (omega arith), power (32 - j) i c (omega arith), power (i + j) j i (omega arith))
    (around_right (2 ^ c) (pow_pos j) (pow_pos i) d)

low_lost : (i j d : ℕ) → i + j ≤ 31 → moved Asl i d % 2 ^ 31 / 2 ^ (31 - j) ≡ d % 2 ^ 31 / 2 ^ (31 - (i + j)) % 2 ^ j
low_lost i j d l =
    let c : ℕ = 31 - (i + j) in
    let m : ℕ = d % 2 ^ 31 in
    let e : 31 ≡ j + (c + i) = omega arith in
    let f : 31 - j ≡ c + i = omega arith in
    ap (λ (t : ℕ). t / 2 ^ (31 - j)) (asl_low i d ∙ sym (mul-mod_first d (2 ^ i) (2 ^ 31)))
    ∙ ap (λ (t : ℕ). m * 2 ^ i % 2 ^ t / 2 ^ (31 - j)) e
    ∙ ap (λ (t : ℕ). m * 2 ^ i % 2 ^ (j + (c + i)) / 2 ^ t) f
    ∙ field (m * 2 ^ i) j (c + i)
    ∙ ap (λ (t : ℕ). m * 2 ^ i / t % 2 ^ j) (pow-add 2 c i)
    ∙ ap (λ (t : ℕ). t % 2 ^ j) (mul-div-mul_right m (2 ^ c) (pow_pos i))

pub overflowed_none : (kind : LongShift) (d : ℕ) (o : Bool) → overflowed kind 0 d o ≡ overflowed kind 0 0 o
unfolding loses
overflowed_none Asl d o = ap not (eq-eqb (d % 2 ^ 31 / 2 ^ 31) (d / 2 ^ 31 * 0) (omega arith))
overflowed_none Lsl d o = refl
overflowed_none Rrl d o = refl
overflowed_none Asr d o = refl
overflowed_none Lsr d o = refl
overflowed_none Rrr d o = refl

pub overflowed_add : (kind : LongShift) (i j d : ℕ) (o : Bool) → i + j ≤ 31 → d < 2 ^ 32
    → overflowed kind (i + j) d o ≡ (overflowed kind i d o || overflowed kind j (moved kind i d) false)
unfolding loses
overflowed_add Asl i j d o l h =
    let c : ℕ = 31 - (i + j) in
    let m : ℕ = d % 2 ^ 31 in
    let high : m / 2 ^ (31 - i) ≡ m / 2 ^ c / 2 ^ j = ap (λ (t : ℕ). m / 2 ^ t) (omega arith) ∙ sym (shr-shr m c j) in
    let low : moved Asl i d % 2 ^ 31 / 2 ^ (31 - j) ≡ m / 2 ^ c % 2 ^ j = low_lost i j d l in
    rw (high, low, asl_high i d, pow-add 2 i j) (lost (d / 2 ^ 31) (m / 2 ^ c) (omega arith) (pow_pos i) (pow_pos j))
overflowed_add Lsl i j d o l h = sym (or-false o)
overflowed_add Rrl i j d o l h = sym (or-false o)
overflowed_add Asr i j d o l h = refl
overflowed_add Lsr i j d o l h = sym (or-false o)
overflowed_add Rrr i j d o l h = sym (or-false o)
