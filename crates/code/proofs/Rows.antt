-- The extended group: its words are written again, and its instructions are read again.
--     extended_again                           a word written from what it reads as
--     unbuilt                                  a word that is not built reads as itself
--     exact_read, long_read, not_built_read    an instruction read from the word that it is written as
-- The table's rule is three tests of each row, which antt computes: a row's kind is found at its code; its word, with each
-- count of a long shift, is of the group and finds a row of its kind; a long shift's code has no count in it.
-- Assumes nothing.
use mathlib.Core.Path.{◌≡◌, refl, ◌∙◌, sym, ap}
use mathlib.Core.Bool.{Bool, true, false, cond}
use Prim.Native.Nat.{ℕ, ◌+◌, ◌/◌, ◌%◌, ◌≤◌, ◌<◌}
use native.Mathlib.Omega.{arith}
use native.Mathlib.Nat.{add-zero}
use borrow.Author.Tests.{eqb-true, eqb-false, ne_eqb, lt-ltb, le-ltb, ltb-false, ltb-true}
use lib.Dec.{T, eqb, ltb, leb}
use Rattle.word.specs.Words.{bit}
use Rattle.word.specs.declared.long.LongShift.{LongShift}
use Rattle.std.specs.Prelude.{Option, Some, None}
use Rattle.code.specs.declared.codes.Extended as of_extended
use Rattle.code.specs.declared.codes.Kind.{Kind}
use Rattle.code.specs.declared.codes.Kind.TheVariants.{Exact, Long}
use Rattle.code.specs.declared.codes.Entry.{Entry}
use Rattle.code.specs.declared.instructions.Instruction.TheVariants.{LongShift as Shift, Extended, NotBuilt}
use Rattle.code.specs.Kinds.{number, same}
use Rattle.code.specs.Codes.{rows, covers, find_word, find_kind}
use Rattle.code.specs.Instructions.{memory_reference, shift_rotate, alter_skip, input_output, places, of_kind, extended, reading, writing, built, word_of}
use Rattle.code.specs.Instructions.{write_long_shift, write_extended, write_not_built}
use Rattle.code.proofs.Digits.{below, under}
use Rattle.code.proofs.Truth.{never, is_true, both}
use Rattle.code.proofs.Rising.{span, clean}
use Rattle.code.proofs.Search.{every, given_test, given_every}
use Rattle.code.proofs.Table.{once, kind_is, code_small}
use Rattle.code.proofs.Fields.{is_extended, no_word, Reads}

-- the tests of a row

abbrev found_at : Option Entry → ℕ → Bool
found_at (Some r) code = eqb r.code code
found_at None code = false

abbrev found_kind : Option Entry → Kind → Bool
found_kind (Some r) kind = same r.kind kind
found_kind None kind = false

-- bits 15 to 12 are 1000 and bit 10 is clear
abbrev in_group : ℕ → Bool
in_group w = cond (eqb (w / 0o10000) 8) (eqb (w / 0o2000 % 2) 0) false

abbrev own : Entry → ℕ → Bool
own e n = cond (in_group (e.code + n)) (found_kind (find_word (e.code + n)) e.kind) false

codes_found : T (every (λ e. found_at (find_kind e.kind) e.code) rows)
unfolding rows find_kind
codes_found = tt

words_found : T (every (λ e. below (own e) (span e.kind)) rows)
unfolding rows find_word
words_found = tt

codes_clean : T (every (λ e. clean e.kind e.code) rows)
unfolding rows
codes_clean = tt

-- what a word of the group reads as, from what the search finds

known : (w : ℕ) (e : Entry) → find_word w ≡ Some e → extended w ≡ of_kind e.kind w
unfolding extended
known w e h = rw (h, extended)

unknown : (w : ℕ) → find_word w ≡ None → extended w ≡ NotBuilt w
unfolding extended
unknown w h = rw (h, extended)

reads_as : (w : ℕ) (k : Kind) → in_group w ≡ true → found_kind (find_word w) k ≡ true → reading w ≡ of_kind k w
reads_as w k g t = is_extended w (omega (arith, lead)) (omega (arith, lead)) ten ∙ go (find_word w) refl t
  where
    lead : w / 0o10000 ≡ 8
    lead = eqb-true (w / 0o10000) 8 (both (eqb (w / 0o10000) 8) (eqb (w / 0o2000 % 2) 0) g).0

    ten : w / 0o2000 % 2 ≡ 0
    ten = eqb-true (w / 0o2000 % 2) 0 (both (eqb (w / 0o10000) 8) (eqb (w / 0o2000 % 2) 0) g).1

    go : (f : Option Entry) → find_word w ≡ f → found_kind f k ≡ true → extended w ≡ of_kind k w
    go (Some e) h s = known w e h ∙ ap (λ (j : Kind). of_kind j w) (once e.kind k (eqb-true (number e.kind) (number k) s))
    go None h s = never (sym s)

-- the count of a long shift

places_is : (w n : ℕ) → w % 16 ≡ n % 16 → (n ≡ 0 → ⊥) → n ≤ 16 → places w ≡ n
places_is w n e p l = go (eqb (w % 16) 0) refl
  where
    go : (b : Bool) → eqb (w % 16) 0 ≡ b → places w ≡ n
    go true h = let z = eqb-true (w % 16) 0 h in rw h (omega arith)
    go false h = let z = eqb-false (w % 16) 0 h in rw h (omega arith)

places_range : (w : ℕ) → (places w ≡ 0 → ⊥) × (places w ≤ 16) × (places w % 16 ≡ w % 16)
places_range w = go (eqb (w % 16) 0) refl
  where
    go : (b : Bool) → eqb (w % 16) 0 ≡ b → (places w ≡ 0 → ⊥) × (places w ≤ 16) × (places w % 16 ≡ w % 16)
    go true h = let z = eqb-true (w % 16) 0 h in rw h (omega arith)
    go false h = let z = eqb-false (w % 16) 0 h in rw h (omega arith)

-- Writing again.

exact_word : (f : Option Entry) (code : ℕ) → found_at f code ≡ true → elim f [ Some r ↦ Some r.code | None ↦ None ] ≡ Some code
exact_word (Some r) code t = ap Some (eqb-true r.code code t)
exact_word None code t = never (sym t)

long_word :
    (f : Option Entry) (code n : ℕ) → found_at f code ≡ true →
    elim f [ Some r ↦ Some (r.code + n) | None ↦ None ] ≡ Some (code + n)
long_word (Some r) code n t = ap (λ (m : ℕ). Some (m + n)) (eqb-true r.code code t)
long_word None code n t = never (sym t)

module _ (w : ℕ) (e : Entry) (found : find_word w ≡ Some e) where
  covered : covers w e ≡ true
  unfolding find_word
  covered = given_test (covers w) e rows found

  coded : found_at (find_kind e.kind) e.code ≡ true
  unfolding find_word
  coded = given_every (covers w) e (λ r. found_at (find_kind r.kind) r.code) rows codes_found found

  cleaned : clean e.kind e.code ≡ true
  unfolding find_word
  cleaned = given_every (covers w) e (λ r. clean r.kind r.code) rows codes_clean found

  kind_again : (k : Kind) → e.kind ≡ k → writing (of_kind k w) ≡ Some w
  unfolding writing write_extended write_long_shift
  kind_again (Exact x) h =
      let c : w ≡ e.code = eqb-true w e.code (rw (h, covers) at covered) in
      rw c (exact_word (find_kind (Exact x)) e.code (rw h at coded))
  kind_again (Long s) h =
      let c : w / 16 ≡ e.code / 16 = eqb-true (w / 16) (e.code / 16) (rw (h, covers) at covered) in
      let z : e.code % 16 ≡ 0 = eqb-true (e.code % 16) 0 (rw (h, clean) at cleaned) in
      let sum : e.code + places w % 16 ≡ w = omega (arith, (places_range w).2) in
      rw (ne_eqb (places w) 0 (places_range w).0, le-ltb 16 (places w) (places_range w).1)
      (long_word (find_kind (Long s)) e.code (places w % 16) (rw h at coded) ∙ ap Some sum)

pub extended_again : (w : ℕ) → w < 0o200000 → reading w ≡ extended w → writing (extended w) ≡ Some w
unfolding writing write_not_built
extended_again w fits here = go (find_word w) refl
  where
    go : (f : Option Entry) → find_word w ≡ f → writing (extended w) ≡ Some w
    go (Some e) h = rw (known w e h) (kind_again w e h e.kind refl)
    go None h = rw (unknown w h, lt-ltb w 0o200000 fits, here, unknown w h)

-- Reading again.

module _ (k : Kind) (e : Entry) (found : find_kind k ≡ Some e) where
  owned : (n : ℕ) → n < span k → own e n ≡ true
  unfolding find_kind
  owned n l =
      under (own e) (span e.kind)
      (is_true (given_every (λ r. same r.kind k) e (λ r. below (own r) (span r.kind)) rows words_found found)) n (rw (kind_is k e found) l)

  clean_kind : clean k e.code ≡ true
  unfolding find_kind
  clean_kind =
      rw (kind_is k e found) at (given_every (λ r. same r.kind k) e (λ r. clean r.kind r.code) rows codes_clean found)

  found_again : (n : ℕ) → n < span k → reading (e.code + n) ≡ of_kind k (e.code + n)
  found_again n l =
      let b = both (in_group (e.code + n)) (found_kind (find_word (e.code + n)) e.kind) (owned n l) in
      reads_as (e.code + n) k b.0 (rw (kind_is k e found) at b.1)

pub exact_read : (x : of_extended.Extended) (w : ℕ) → write_extended x ≡ Some w → Reads w (Extended x)
unfolding write_extended
exact_read x w h = go (find_kind (Exact x)) refl
  where
    go : (f : Option Entry) → find_kind (Exact x) ≡ f → Reads w (Extended x)
    go (Some e) f =
        let c : e.code ≡ w = ap word_of (rw (f, write_extended) at h) in
        let r = found_again (Exact x) e f 0 (omega arith) in
        (omega (arith, code_small (Exact x) e f), rw (add-zero, c) at r)
    go None f = absurd (no_word (rw (f, write_extended) at h))

pub long_read : (s : LongShift) (n w : ℕ) → write_long_shift s n ≡ Some w → Reads w (Shift s n)
unfolding write_long_shift
long_read s n w h = go (eqb n 0) (ltb 16 n) (find_kind (Long s)) refl refl refl
  where
    go : (a b : Bool) (f : Option Entry) → eqb n 0 ≡ a → ltb 16 n ≡ b → find_kind (Long s) ≡ f → Reads w (Shift s n)
    go true b f p q r = absurd (no_word (rw p at h))
    go false true f p q r = absurd (no_word (rw (p, q) at h))
    go false false None p q r = absurd (no_word (rw (p, q, r, write_long_shift) at h))
    go false false (Some e) p q r =
        let c : e.code + n % 16 ≡ w = ap word_of (rw (p, q, r, write_long_shift) at h) in
        let z : e.code % 16 ≡ 0 = eqb-true (e.code % 16) 0 (clean_kind (Long s) e r) in (
          omega (arith, code_small (Long s) e r),
          rw c at (found_again (Long s) e r (n % 16) (omega arith))
              ∙ ap (Shift s) (places_is w n (omega arith) (eqb-false n 0 p) (ltb-false 16 n q)),
        )

-- the extended group alone has words that are not built, and each of them reads as itself

unbuilt_extended : (w : ℕ) → built (extended w) ≡ false → extended w ≡ NotBuilt w
unbuilt_extended w h = go (find_word w) refl
  where
    built_kind : (k : Kind) → built (of_kind k w) ≡ true
    built_kind (Exact x) = refl
    built_kind (Long s) = refl

    go : (f : Option Entry) → find_word w ≡ f → extended w ≡ NotBuilt w
    go (Some e) f = never (sym (built_kind e.kind) ∙ (rw (known w e f) at h))
    go None f = unknown w f

pub unbuilt : (w : ℕ) → built (reading w) ≡ false → reading w ≡ NotBuilt w
unfolding reading memory_reference shift_rotate alter_skip input_output
unbuilt w h = go (leb 2 (w / 0o4000 % 16)) (bit 15 w) (bit 10 w) refl refl refl
  where
    go : (a b c : Bool) → leb 2 (w / 0o4000 % 16) ≡ a → bit 15 w ≡ b → bit 10 w ≡ c → reading w ≡ NotBuilt w
    go true b c p q r = never (rw p at h)
    go false true true p q r = never (rw (p, q, r) at h)
    go false true false p q r = rw (p, q, r) (unbuilt_extended w (rw (p, q, r) at h))
    go false false true p q r = never (rw (p, q, r) at h)
    go false false false p q r = never (rw (p, q, r) at h)

pub not_built_read : (v w : ℕ) → write_not_built v ≡ Some w → Reads w (NotBuilt v)
unfolding write_not_built
not_built_read v w h = go (ltb v 0o200000) (built (reading v)) refl refl
  where
    go : (a b : Bool) → ltb v 0o200000 ≡ a → built (reading v) ≡ b → Reads w (NotBuilt v)
    go false b p q = absurd (no_word (rw p at h))
    go true true p q = absurd (no_word (rw (p, q) at h))
    go true false p q = let c : v ≡ w = ap word_of (rw (p, q) at h) in (rw c at (ltb-true v 0o200000 p), ap reading (sym c) ∙ unbuilt v q)
