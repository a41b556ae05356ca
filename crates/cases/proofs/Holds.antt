-- Every row of the table meets the statement.
--     passes, every      a row's test, and the test of all rows
--     meets              what a test that passes shows
--     computed           antt computes the test of all rows
--     holds              the theorem: each row, by its place
-- Assumes nothing.
use Prim.Native.Nat.{ℕ, zero, suc, ◌<◌}
use native.Mathlib.Nat.{le_of_suc-le-suc, not-suc-le-zero}
use mathlib.Core.Path.{◌≡◌, refl, ◌∙◌, sym, ap}
use mathlib.Core.Bool.{Bool, true, false}
use mathlib.Core.List.{List, [], ◌∷◌}
use lib.Dec.{T, eqb, eqb→eq}
use lib.ListN.{length, get_or}
use Rattle.word.specs.Sums.{sum}
use Rattle.word.specs.Long.{moved, loses}
use Rattle.word.specs.Products.{multiplied, divided}
use Rattle.maps.specs.Pages.{is_open, presence, spot, place}
use Rattle.maps.specs.Access.{fetched}
use Rattle.maps.specs.Chains.{chased, chain}
use Rattle.acts.specs.Record.{words_of, registers_at}
use Rattle.acts.proofs.Words.{at_words}
use Rattle.acts.specs.Replies.{number}
use Rattle.code.specs.Codes.{rows, find_word}
use Rattle.code.specs.Instructions.{memory_reference, shift_rotate, alter_skip, input_output, extended, reading}
use Rattle.effects.specs.Group.{shift_rotated, alter_skips, alter_ended, alter_skipped, long_rotated}
use Rattle.strings.specs.Strings.{touches, opens_all, present_all, moving}
use Rattle.acts.specs.Acts.{Outcome, exec, answer, left}
use Rattle.machine.specs.Step.{stepped}
use Rattle.acts.specs.declared.record.Registers.{Registers}
use Rattle.cases.specs.Table.{Case, Meets, holding, result, table, c5}

abbrev both : Bool → Bool → Bool
both true b = b
both false b = false

first_of : (a b : Bool) → T (both a b) → T a
first_of true b t = tt
first_of false b t = t

second_of : (a b : Bool) → T (both a b) → T b
second_of true b t = t
second_of false b t = absurd t

abbrev same : List ℕ → List ℕ → Bool
same [] [] = true
same [] (y ∷ ys) = false
same (x ∷ xs) [] = false
same (x ∷ xs) (y ∷ ys) = both (eqb x y) (same xs ys)

equal : (xs ys : List ℕ) → T (same xs ys) → xs ≡ ys
equal [] [] t = refl
equal [] (y ∷ ys) t = absurd t
equal (x ∷ xs) [] t = absurd t
equal (x ∷ xs) (y ∷ ys) t =
    λ i. eqb→eq x y (first_of (eqb x y) (same xs ys) t) i ∷ equal xs ys (second_of (eqb x y) (same xs ys) t) i

abbrev same_reply : Case → Outcome → Bool
same_reply c s = eqb (number (answer c.start s).reply) c.reply

abbrev same_registers : Case → Outcome → Bool
same_registers c s = same (words_of (answer c.start s).registers) (words_of c.registers)

abbrev same_memory : Case → Outcome → Bool
same_memory c s = same (left (holding c.words) s) (holding c.later)

abbrev agrees : Case → Outcome → Bool
agrees c s = both (same_reply c s) (both (same_registers c s) (same_memory c s))

abbrev pub passes : Case → Bool
passes c = agrees c (result c)

abbrev pub every : List Case → Bool
every [] = true
every (c ∷ cs) = both (passes c) (every cs)

equal_registers : (r s : Registers) → T (same (words_of r) (words_of s)) → r ≡ s
equal_registers r s t =
    let e : words_of r ≡ words_of s = equal (words_of r) (words_of s) t in
    sym (at_words r) ∙ ap registers_at {x = words_of r} {y = words_of s} e ∙ at_words s

agreeing : (c : Case) (s : Outcome) → T (agrees c s)
    → (number (answer c.start s).reply ≡ c.reply) × ((answer c.start s).registers ≡ c.registers)
    × (left (holding c.words) s ≡ holding c.later)
agreeing c s t =
    let more : T (both (same_registers c s) (same_memory c s)) = second_of (same_reply c s) (both (same_registers c s) (same_memory c s)) t in (
      eqb→eq (number (answer c.start s).reply) c.reply (first_of (same_reply c s) (both (same_registers c s) (same_memory c s)) t),
      equal_registers (answer c.start s).registers c.registers (first_of (same_registers c s) (same_memory c s) more),
      equal (left (holding c.words) s) (holding c.later) (second_of (same_registers c s) (same_memory c s) more),
    )

meets : (c : Case) → T (passes c) → Meets c
meets c t =
    let e = agreeing c (result c) t in
    record { replied = e.0; became = e.1; left_as = e.2 }

each : (cs : List Case) → T (every cs) → (i : ℕ) → i < length cs → Meets (get_or cs i c5)
each [] t i h = absurd (not-suc-le-zero h)
each (c ∷ cs) t zero h = meets c (first_of (passes c) (every cs) t)
each (c ∷ cs) t (suc i) h = each cs (second_of (passes c) (every cs) t) i (le_of_suc-le-suc h)

computed : T (every table)
unfolding table stepped exec reading memory_reference shift_rotate alter_skip input_output extended find_word rows shift_rotated alter_skips alter_ended alter_skipped long_rotated moved loses multiplied divided sum touches opens_all present_all moving fetched place is_open presence spot chain chased
computed = tt

-- the rows are 17, and past them stands C5
pub holds : (i : ℕ) → i < length table → Meets (get_or table i c5)
holds i h = each table computed i h
