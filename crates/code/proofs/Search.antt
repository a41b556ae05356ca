-- What is true of a row of a table, and of the row that the search of it gives.
--     every_at      a test that every row passes, which antt computes, at the row i
--     given_test    a row that the search gives passes the search's test
--     given_every   and a test that every row passes
-- Assumes nothing.
use mathlib.Core.Path.{◌≡◌, refl, ◌∙◌, sym}
use mathlib.Core.Bool.{Bool, true, false, cond}
use mathlib.Core.List.{List, [], ◌∷◌}
use Prim.Native.Nat.{ℕ, zero, suc, ◌<◌}
use native.Mathlib.Nat.{le_of_suc-le-suc, not-suc-le-zero}
use lib.Dec.{T}
use lib.ListN.{length, get_or}
use Rattle.std.specs.Prelude.{Some, find}
use Rattle.code.specs.declared.codes.Register.TheVariants.{A}
use Rattle.code.specs.declared.codes.Data.TheVariants.{One}
use Rattle.code.specs.declared.codes.Cross.TheVariants.{Xl}
use Rattle.code.specs.declared.codes.Extended.TheVariants.{Cross}
use Rattle.code.specs.declared.codes.Kind.TheVariants.{Exact}
use Rattle.code.specs.declared.codes.Entry.{Entry}
use Rattle.code.specs.Codes.{row}

-- what stands past a table's end
abbrev pub none : Entry
none = row 0 0 (Exact (Cross Xl A One))

abbrev pub entry : List Entry → ℕ → Entry
entry es i = get_or es i none

step : (p : Entry → Bool) (e : Entry) (es : List Entry) (b : Bool) → p e ≡ b → find p (e ∷ es) ≡ cond b (Some e) (find p es)
step p e es b h = rw (h, find)

abbrev pub every : (Entry → Bool) → List Entry → Bool
every q [] = true
every q (e ∷ es) = elim (q e) [ true ↦ every q es | false ↦ false ]

true_first : (q : Entry → Bool) (e : Entry) (es : List Entry) (b : Bool) → q e ≡ b → T (every q (e ∷ es)) → (q e ≡ true) × T (every q es)
true_first q e es true h t = (h, rw (h, every) at t)
true_first q e es false h t = absurd (rw (h, every) at t)

pub every_at : (q : Entry → Bool) (es : List Entry) → T (every q es) → (i : ℕ) → i < length es → q (entry es i) ≡ true
every_at q [] t i h = absurd (not-suc-le-zero h)
every_at q (e ∷ es) t zero h = (true_first q e es (q e) refl t).0
every_at q (e ∷ es) t (suc i) h = every_at q es (true_first q e es (q e) refl t).1 i (le_of_suc-le-suc h)

module _ (p : Entry → Bool) (r : Entry) where
  pub given_test : (es : List Entry) → find p es ≡ Some r → p r ≡ true
  given_test [] g = cc
  given_test (e ∷ es) g = go (p e) refl (given_test es)
    where
      go : (b : Bool) → p e ≡ b → (find p es ≡ Some r → p r ≡ true) → p r ≡ true
      go true h next = let s : Some e ≡ Some r = sym (step p e es true h) ∙ g in let e≡r : e ≡ r = cc in rw⁻¹ e≡r h
      go false h next = next (sym (step p e es false h) ∙ g)

  pub given_every : (q : Entry → Bool) (es : List Entry) → T (every q es) → find p es ≡ Some r → q r ≡ true
  given_every q [] t g = cc
  given_every q (e ∷ es) t g = go (p e) refl (true_first q e es (q e) refl t) (given_every q es)
    where
      go : (b : Bool) → p e ≡ b → (q e ≡ true) × T (every q es) → (T (every q es) → find p es ≡ Some r → q r ≡ true) → q r ≡ true
      go true h both next = let s : Some e ≡ Some r = sym (step p e es true h) ∙ g in let e≡r : e ≡ r = cc in rw⁻¹ e≡r both.0
      go false h both next = next both.1 (sym (step p e es false h) ∙ g)
