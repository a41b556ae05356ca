-- The register record as words, and back.
--     record_length     words that are a record are 14
--     at_words          the record at its own words
--     registers_again   the registers that are written as words are read from them again
--     words_again       words that are a record are written again from its registers
-- Assumes nothing.
use Prim.Native.Nat.{ℕ, zero, suc, ◌+◌, ◌≤◌}
use native.Mathlib.Omega.{arith}
use mathlib.Core.Path.{◌≡◌, refl, sym, ap, ◌∙◌}
use mathlib.Core.Bool.{Bool, true, false, cond, ◌&&◌}
use mathlib.Core.List.{List, [], ◌∷◌}
use lib.Dec.{eqb, leb}
use lib.ListN.{length, get_or, drop, drop_of_length-le}
use lib.Seq.{drop-cons}
use borrow.Author.Tests.{eqb-true, le-leb, leb-true}
use Rattle.word.specs.Words.{weight}
use Rattle.acts.specs.declared.record.Registers.{Registers}
use Rattle.std.specs.Prelude.{Some, None}
use Rattle.acts.specs.Record.{words_of, is_record, registers_at, registers_of}

pub record_length : (w : List ℕ) (r : Registers) → registers_of w ≡ Some r → length w ≡ 14
unfolding registers_of
record_length w r h = go (eqb (length w) 14) refl
  where
    go : (b : Bool) → eqb (length w) 14 ≡ b → length w ≡ 14
    go true e = eqb-true (length w) 14 e
    go false e =
        let n : None ≡ Some r = rw e at h in
        absurd (let z : ◌≡◌ {A = ℕ} 0 1 = cc in omega arith)

parts : (a b : Bool) → (a && b) ≡ true → (a ≡ true) × (b ≡ true)
parts true b e = (refl, e)
parts false b e = absurd (let z : ◌≡◌ {A = ℕ} 0 1 = cc in omega arith)

flag : (b : Bool) → (eqb (weight b) 1 ≡ b) × (leb (weight b) 1 ≡ true)
flag true = (refl, refl)
flag false = (refl, refl)

pub at_words : (r : Registers) → registers_at (words_of r) ≡ r
at_words r = rw ((flag r.e).0, (flag r.o).0) refl

pub registers_again : (r : Registers) → r.switches ≤ 255 → r.lights ≤ 255 → registers_of (words_of r) ≡ Some r
unfolding registers_of
registers_again r s l = rw ((flag r.e).1, (flag r.o).1, le-leb _ _ s, le-leb _ _ l) (ap Some (at_words r))

-- the elements of a list from i on, k of them
abbrev from : ℕ → ℕ → List ℕ → List ℕ
from zero i l = []
from (suc k) i l = get_or l i 0 ∷ from k (suc i) l

all_of : (k i : ℕ) (l : List ℕ) → length l ≡ k + i → drop i l ≡ from k i l
all_of zero i l h = drop_of_length-le l {i = i} (omega arith)
all_of (suc k) i l h = drop-cons l i 0 (omega arith) ∙ ap (λ (r : List ℕ). get_or l i 0 ∷ r) (all_of k (suc i) l (omega arith))

bit_again : (n : ℕ) → n ≤ 1 → weight (eqb n 1) ≡ n
bit_again zero h = refl
bit_again (suc zero) h = refl
bit_again (suc (suc n)) h = absurd (omega arith)

chosen : (t : Bool) (r s : Registers) → cond t (Some s) None ≡ Some r → (t ≡ true) × (s ≡ r)
chosen true r s h = (refl, cc)
chosen false r s h = absurd (let z : ◌≡◌ {A = ℕ} 0 1 = cc in omega arith)

pub words_again : (w : List ℕ) (r : Registers) → registers_of w ≡ Some r → words_of r ≡ w
unfolding registers_of
words_again w r h =
    let t = chosen (is_record w) r (registers_at w) h in
    let lights = parts (eqb (length w) 14 && leb (get_or w 5 0) 1 && leb (get_or w 6 0) 1 && leb (get_or w 12 0) 255) (leb (get_or w 13 0) 255) t.0 in
    let switches = parts (eqb (length w) 14 && leb (get_or w 5 0) 1 && leb (get_or w 6 0) 1) (leb (get_or w 12 0) 255) lights.0 in
    let o = parts (eqb (length w) 14 && leb (get_or w 5 0) 1) (leb (get_or w 6 0) 1) switches.0 in
    let e = parts (eqb (length w) 14) (leb (get_or w 5 0) 1) o.0 in
    ap words_of (sym t.1)
    ∙ rw (bit_again (get_or w 5 0) (leb-true _ _ e.1), bit_again (get_or w 6 0) (leb-true _ _ o.1)) (sym (all_of 14 0 w (eqb-true (length w) 14 e.0)))
