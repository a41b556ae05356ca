-- The rows of the table stand by rising code, and the words of a row end before those of the next begin.
--     span, clean                 how many words a row has; that a long shift's code has no count in it
--     risen                       the codes of the rows rise
--     asked                       so a row that covers a word is the word's row
--     sought_none, sought_last    and the row of a word, if one has it, is the last whose code is not past the word
-- Assumes nothing.
use Prim.Native.Nat.{ℕ, zero-le, zero, suc, ◌+◌, ◌-◌, ◌/◌, ◌%◌, ◌≤◌, ◌<◌}
use native.Mathlib.Omega.{arith}
use native.Mathlib.Nat.{le_of_suc-le-suc, not-suc-le-zero}
use mathlib.Core.Path.{◌≡◌, refl, sym}
use mathlib.Core.Bool.{Bool, true, false, cond}
use mathlib.Core.List.{List, [], ◌∷◌}
use lib.Dec.{T, eqb, leb}
use lib.ListN.{length, get_or}
use borrow.Author.Tests.{eqb-true, leb-true, leb-false, ne_eqb}
use Rattle.std.specs.Prelude.{Option, Some, None, find, ◌⊎◌}
use Rattle.std.specs.Bool.{then_some}
use Rattle.std.specs.List.{slice_get}
use Rattle.std.specs.List.Sorted.{IsNonDecreasingBy, IsPartitionPoint}
use Rattle.std.proofs.Common.{inl, inr}
use Rattle.word.specs.declared.long.LongShift.TheVariants.{Asl}
use Rattle.code.specs.declared.codes.Kind.{Kind}
use Rattle.code.specs.declared.codes.Kind.TheVariants.{Exact, Long}
use Rattle.code.specs.declared.codes.Entry.{Entry}
use Rattle.code.specs.Codes.{row, rows, covers, find_word}

-- how many words a row of a kind has
abbrev pub span : Kind → ℕ
span (Exact e) = 1
span (Long s) = 16

-- a long shift's code has no count in it
abbrev pub clean : Kind → ℕ → Bool
clean (Exact e) code = true
clean (Long s) code = eqb (code % 16) 0

-- from n on
abbrev rising : ℕ → List Entry → Bool
rising n [] = true
rising n (e ∷ es) = cond (leb n e.code) (cond (clean e.kind e.code) (rising (e.code + span e.kind) es) false) false

all_rising : T (rising 0 rows)
unfolding rows
all_rising = tt

record Step (n : ℕ) (e : Entry) (es : List Entry) : Type 0 where
  from : n ≤ e.code
  cleaned : clean e.kind e.code ≡ true
  onward : T (rising (e.code + span e.kind) es)

step : (n : ℕ) (e : Entry) (es : List Entry) → T (rising n (e ∷ es)) → Step n e es
step n e es t = go (leb n e.code) (clean e.kind e.code) refl refl
  where
    go : (a b : Bool) → leb n e.code ≡ a → clean e.kind e.code ≡ b → Step n e es
    go true true p q = record { from = leb-true n e.code p; cleaned = q; onward = rw (p, q) at t }
    go true false p q = absurd (rw (p, q) at t)
    go false b p q = absurd (rw p at t)

-- a word before a row, or past its words, is not of the row
outside : (w code : ℕ) (k : Kind) (e : Entry) → e.kind ≡ k → e.code ≡ code → clean k code ≡ true → ((w < code) ⊎ (code + span k ≤ w)) → covers w e ≡ false
outside w code (Exact x) e h g c (inl l) = rw (h, g, ne_eqb w code (λ q. omega arith))
outside w code (Exact x) e h g c (inr l) = rw (h, g, ne_eqb w code (λ q. omega arith))
outside w code (Long s) e h g c (inl l) = let z = eqb-true (code % 16) 0 c in rw (h, g, ne_eqb (w / 16) (code / 16) (λ q. omega arith))
outside w code (Long s) e h g c (inr l) = let z = eqb-true (code % 16) 0 c in rw (h, g, ne_eqb (w / 16) (code / 16) (λ q. omega arith))

-- codes rise

later : (n : ℕ) (es : List Entry) (i : ℕ) (d : Entry) → T (rising n es) → i < length es → n ≤ (get_or es i d).code
later n [] i d t b = absurd (not-suc-le-zero b)
later n (e ∷ es) zero d t b = (step n e es t).from
later n (e ∷ es) (suc i) d t b =
    let s = step n e es t in
    let l : e.code + span e.kind ≤ (get_or es i d).code = later (e.code + span e.kind) es i d s.onward (le_of_suc-le-suc b) in
    omega (arith, s.from)

ordered : (n : ℕ) (es : List Entry) (i j : ℕ) (d : Entry) → T (rising n es) → i ≤ j → j < length es → (get_or es i d).code ≤ (get_or es j d).code
ordered n [] i j d t l b = absurd (not-suc-le-zero b)
ordered n (e ∷ es) zero zero d t l b = omega arith
ordered n (e ∷ es) (suc i) zero d t l b = absurd (not-suc-le-zero l)
ordered n (e ∷ es) zero (suc j) d t l b =
    let m : e.code + span e.kind ≤ (get_or es j d).code = later (e.code + span e.kind) es j d (step n e es t).onward (le_of_suc-le-suc b) in
    omega arith
ordered n (e ∷ es) (suc i) (suc j) d t l b = ordered (e.code + span e.kind) es i j d (step n e es t).onward (le_of_suc-le-suc l) (le_of_suc-le-suc b)

pub risen : IsNonDecreasingBy (λ e. e.code) rows
risen i j d l b = ordered 0 rows i j d all_rising l b

-- the row of a word

module _ (w : ℕ) where
  last_of : ℕ → List Entry → Entry → Option Entry
  last_of zero es d = None
  last_of (suc k) es d = then_some (covers w (get_or es k d)) (get_or es k d)

  none : (n : ℕ) (es : List Entry) → T (rising n es) → w < n → find (covers w) es ≡ None
  none n [] t h = refl
  none n (e ∷ es) t h =
      let s = step n e es t in
      rw (outside w e.code e.kind e refl refl s.cleaned (inl (omega (arith, s.from))), find)
      (none (e.code + span e.kind) es s.onward (omega (arith, s.from)))

  chosen : (b : Bool) (e : Entry) → cond b (Some e) None ≡ then_some b e
  chosen true e = refl
  chosen false e = refl

  last : (n : ℕ) (es : List Entry) (k : ℕ) (d : Entry) → T (rising n es)
      → ((i : ℕ) → i < k → (get_or es i d).code ≤ w) → ((i : ℕ) → k ≤ i → i < length es → w < (get_or es i d).code)
      → k ≤ length es → find (covers w) es ≡ last_of k es d
  unfolding last_of
  last n [] zero d t l h b = refl
  last n [] (suc k) d t l h b = absurd (not-suc-le-zero b)
  last n (e ∷ es) zero d t l h b =
      let s = step n e es t in
      let past : w < e.code = h 0 zero-le (omega arith) in
      rw (outside w e.code e.kind e refl refl s.cleaned (inl past), find) (none (e.code + span e.kind) es s.onward (omega arith))
  last n (e ∷ es) (suc zero) d t l h b =
      let s = step n e es t in
      let rest : find (covers w) es ≡ None =
      last (e.code + span e.kind) es zero d s.onward (λ i p. absurd (not-suc-le-zero p)) (λ i p q. h (suc i) (omega arith) (omega arith)) zero-le
      in
      rw rest (chosen (covers w e) e)
  last n (e ∷ []) (suc (suc k)) d t l h b = absurd (not-suc-le-zero (le_of_suc-le-suc b))
  last n (e ∷ f ∷ fs) (suc (suc k)) d t l h b =
      let s = step n e (f ∷ fs) t in
      let from = (step (e.code + span e.kind) f fs s.onward).from in
      let to : f.code ≤ w = l 1 (omega arith) in
      rw (outside w e.code e.kind e refl refl s.cleaned (inr (omega arith)), find)
      (last (e.code + span e.kind) (f ∷ fs) (suc k) d s.onward (λ i p. l (suc i) (omega arith)) (λ i p q. h (suc i) (omega arith) (omega arith)) (le_of_suc-le-suc b))

  found : (n : ℕ) (es : List Entry) (k : ℕ) (r : Entry) → T (rising n es) → slice_get es k ≡ Some r → covers w r ≡ true → find (covers w) es ≡ Some r
  found n [] k r t g c = cc
  found n (e ∷ es) zero r t g c = let e≡r : e ≡ r = cc in rw (e≡r, c, find) refl
  found n (e ∷ es) (suc k) r t g c =
      let s = step n e es t in
      go (leb (e.code + span e.kind) w) refl s (found (e.code + span e.kind) es k r s.onward g c)
    where
      go : (b : Bool) → leb (e.code + span e.kind) w ≡ b → Step n e es → find (covers w) es ≡ Some r → find (covers w) (e ∷ es) ≡ Some r
      go true h s rest = rw (outside w e.code e.kind e refl refl s.cleaned (inr (leb-true (e.code + span e.kind) w h)), find) rest
      go false h s rest = let no = none (e.code + span e.kind) es s.onward (leb-false (e.code + span e.kind) w h) in cc

  pub asked : (k : ℕ) (r : Entry) → slice_get rows k ≡ Some r → covers w r ≡ true → Some r ≡ find_word w
  unfolding find_word
  asked k r g c = sym (found 0 rows k r all_rising g c)

  module _ (k : ℕ) (point : IsPartitionPoint (λ e. leb e.code w ≡ true) (λ e. leb e.code w ≡ false) rows k) (within : k ≤ length rows) where
    sought : (d : Entry) → find (covers w) rows ≡ last_of k rows d
    sought d =
        last 0 rows k d all_rising (λ i p. leb-true (get_or rows i d).code w (point.0 i d zero-le p)) (λ i p q. leb-false (get_or rows i d).code w (point.1 i d p q)) within

    pub sought_none : k ≡ 0 → None ≡ find_word w
    unfolding find_word last_of
    sought_none e = sym (rw e at (sought (row 0 0 (Long Asl))))

    pub sought_last : (d : Entry) → (k ≡ 0 → ⊥) → then_some (covers w (get_or rows (k - 1) d)) (get_or rows (k - 1) d) ≡ find_word w
    unfolding find_word last_of
    sought_last d h = let e : k ≡ suc (k - 1) = omega arith in sym (rw e at (sought d))
