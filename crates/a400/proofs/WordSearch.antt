-- The search for the word that reads as fields.
--     below_reads    the word that it gives is below the end, and reads as these fields
--     below_none     where it gives none, no word below the end does
-- The end is any number: nothing here goes through 65,536 words.
-- Assumes nothing.
use Prim.Native.Nat.{ℕ, zero, suc, ◌<◌}
use native.Mathlib.Nat.{not-suc-le-zero}
use native.Mathlib.Omega.{arith}
use mathlib.Core.Path.{◌≡◌, refl, sym, ap, ◌∙◌}
use mathlib.Core.Bool.{Bool, true, false}
use mathlib.Core.List.{List}
use lib.Dec.{eqb}
use borrow.Author.Tests.{eqb-true, eqb-false}
use Rattle.std.proofs.lemmas.Slice.Eq.{bytes_eq-Decides}
use Rattle.std.specs.Prelude.{Some, None}
use Rattle.code.specs.Instructions.{reading, word_of}
use Rattle.code.proofs.Truth.{never}
use Rattle.a400.specs.Fields.{fields_of, same_words, word_below}

module _ (f : List ℕ) where
  pub below_reads : (n v : ℕ) → word_below n f ≡ Some v → (v < n) × (fields_of (reading v) ≡ f)
  unfolding word_below
  below_reads zero v h = cc
  below_reads (suc n) v h = go (same_words f (fields_of (reading n))) refl (below_reads n v)
    where
      go : (b : Bool) → same_words f (fields_of (reading n)) ≡ b
          → (word_below n f ≡ Some v → (v < n) × (fields_of (reading v) ≡ f))
          → (v < suc n) × (fields_of (reading v) ≡ f)
      go true s next =
          let e : n ≡ v = ap word_of (rw s at h) in
          (omega arith, ap (λ (w : ℕ). fields_of (reading w)) (sym e) ∙ sym ((bytes_eq-Decides f (fields_of (reading n))).0 s))
      go false s next =
          let r = next (rw s at h) in
          (omega (arith, r.0), r.1)

  pub below_none : (n : ℕ) → word_below n f ≡ None → (w : ℕ) → w < n → fields_of (reading w) ≡ f → ⊥
  unfolding word_below
  below_none zero h w l e = not-suc-le-zero l
  below_none (suc n) h w l e = go (same_words f (fields_of (reading n))) (eqb w n) refl refl (below_none n)
    where
      go : (b c : Bool) → same_words f (fields_of (reading n)) ≡ b → eqb w n ≡ c
          → (word_below n f ≡ None → (w : ℕ) → w < n → fields_of (reading w) ≡ f → ⊥) → ⊥
      go true c s t next =
          let k : Some n ≡ None = rw s at h in
          cc
      go false true s t next =
          let m : w ≡ n = eqb-true w n t in
          let r : fields_of (reading n) ≡ f = rw m at e in
          never (sym ((bytes_eq-Decides f f).1 refl) ∙ (rw r at s))
      go false false s t next =
          let m = eqb-false w n t in
          next (rw s at h) w (omega arith) e
