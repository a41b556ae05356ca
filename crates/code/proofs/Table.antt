-- Each kind of an extended code has a row of the table, and a number of its own.
--     at_number     the first row whose kind has a kind's number is a row of that kind
--     once          kinds with the same number are the same
--     same_is       so a test of whether two kinds are equal is `same` of them
--     kind_is       a row that is found for a kind is of that kind
--     in_table      a test that every row passes, at the row of a kind
--     code_small    every code leaves room for a count of four bits
-- Assumes nothing.
use mathlib.Core.Path.{◌≡◌, refl, ◌∙◌, sym, ap}
use mathlib.Core.Bool.{Bool, true, false}
use Prim.Native.Nat.{ℕ, ◌<◌}
use borrow.Author.Tests.{eq-eqb, ne_eqb, ltb-true}
use lib.Dec.{T, eqb, ltb}
use Rattle.std.specs.Prelude.{Option, Some, None, find, option_map, ◌↔◌, IsTrue}
use Rattle.word.specs.declared.long.LongShift.TheVariants.{Asl, Lsl, Rrl, Asr, Lsr, Rrr}
use Rattle.code.specs.declared.codes.Register.TheVariants.{A, B}
use Rattle.code.specs.declared.codes.Index.TheVariants.{X, Y}
use Rattle.code.specs.declared.codes.Data.TheVariants.{One, Two}
use Rattle.code.specs.declared.codes.Cross.TheVariants.{Xl, Xs, Xc}
use Rattle.code.specs.declared.codes.Transfer.TheVariants.{Sax, Cax, Lax, Cxa, Xax}
use Rattle.code.specs.declared.codes.Indexing.TheVariants.{Stx, Ldx, Adx, Isx, Dsx}
use Rattle.code.specs.declared.codes.Arithmetic.TheVariants.{Mpy, Div, Dld, Dst}
use Rattle.code.specs.declared.codes.Bytes.TheVariants.{Lbt, Sbt, Mbt, Cbt}
use Rattle.code.specs.declared.codes.Bits.TheVariants.{Sbs, Cbs, Tbs}
use Rattle.code.specs.declared.codes.Words.TheVariants.{Cmw, Mvw}
use Rattle.code.specs.declared.codes.Extended.TheVariants.{Cross, Transfer, Indexing, Arithmetic, Bytes, Bits, Words}
use Rattle.code.specs.declared.codes.Kind.{Kind}
use Rattle.code.specs.declared.codes.Kind.TheVariants.{Exact, Long}
use Rattle.code.specs.declared.codes.Entry.{Entry}
use Rattle.code.specs.Kinds.{number, same}
use Rattle.code.specs.Codes.{rows, find_kind}
use Rattle.code.proofs.Truth.{never}
use Rattle.code.proofs.Search.{every, given_every}

-- the kind of the first row whose kind has a number
abbrev kind_at : ℕ → Option Kind
kind_at n = option_map (λ e. e.kind) (find (λ e. eqb (number e.kind) n) rows)

pub at_number : (k : Kind) → kind_at (number k) ≡ Some k
unfolding rows
at_number (Exact (Cross Xl A One)) = refl
at_number (Exact (Cross Xl A Two)) = refl
at_number (Exact (Cross Xl B One)) = refl
at_number (Exact (Cross Xl B Two)) = refl
at_number (Exact (Cross Xs A One)) = refl
at_number (Exact (Cross Xs A Two)) = refl
at_number (Exact (Cross Xs B One)) = refl
at_number (Exact (Cross Xs B Two)) = refl
at_number (Exact (Cross Xc A One)) = refl
at_number (Exact (Cross Xc A Two)) = refl
at_number (Exact (Cross Xc B One)) = refl
at_number (Exact (Cross Xc B Two)) = refl
at_number (Exact (Transfer Sax A X)) = refl
at_number (Exact (Transfer Sax A Y)) = refl
at_number (Exact (Transfer Sax B X)) = refl
at_number (Exact (Transfer Sax B Y)) = refl
at_number (Exact (Transfer Cax A X)) = refl
at_number (Exact (Transfer Cax A Y)) = refl
at_number (Exact (Transfer Cax B X)) = refl
at_number (Exact (Transfer Cax B Y)) = refl
at_number (Exact (Transfer Lax A X)) = refl
at_number (Exact (Transfer Lax A Y)) = refl
at_number (Exact (Transfer Lax B X)) = refl
at_number (Exact (Transfer Lax B Y)) = refl
at_number (Exact (Transfer Cxa A X)) = refl
at_number (Exact (Transfer Cxa A Y)) = refl
at_number (Exact (Transfer Cxa B X)) = refl
at_number (Exact (Transfer Cxa B Y)) = refl
at_number (Exact (Transfer Xax A X)) = refl
at_number (Exact (Transfer Xax A Y)) = refl
at_number (Exact (Transfer Xax B X)) = refl
at_number (Exact (Transfer Xax B Y)) = refl
at_number (Exact (Indexing Stx X)) = refl
at_number (Exact (Indexing Stx Y)) = refl
at_number (Exact (Indexing Ldx X)) = refl
at_number (Exact (Indexing Ldx Y)) = refl
at_number (Exact (Indexing Adx X)) = refl
at_number (Exact (Indexing Adx Y)) = refl
at_number (Exact (Indexing Isx X)) = refl
at_number (Exact (Indexing Isx Y)) = refl
at_number (Exact (Indexing Dsx X)) = refl
at_number (Exact (Indexing Dsx Y)) = refl
at_number (Exact (Arithmetic Mpy)) = refl
at_number (Exact (Arithmetic Div)) = refl
at_number (Exact (Arithmetic Dld)) = refl
at_number (Exact (Arithmetic Dst)) = refl
at_number (Exact (Bytes Lbt)) = refl
at_number (Exact (Bytes Sbt)) = refl
at_number (Exact (Bytes Mbt)) = refl
at_number (Exact (Bytes Cbt)) = refl
at_number (Exact (Bits Sbs)) = refl
at_number (Exact (Bits Cbs)) = refl
at_number (Exact (Bits Tbs)) = refl
at_number (Exact (Words Cmw)) = refl
at_number (Exact (Words Mvw)) = refl
at_number (Long Asl) = refl
at_number (Long Lsl) = refl
at_number (Long Rrl) = refl
at_number (Long Asr) = refl
at_number (Long Lsr) = refl
at_number (Long Rrr) = refl

pub once : (j k : Kind) → number j ≡ number k → j ≡ k
once j k h = let z : Some j ≡ Some k = sym (at_number j) ∙ ap kind_at h ∙ at_number k in cc

pub same_is : (j k : Kind) (b : Bool) → (IsTrue b ↔ (j ≡ k)) → b ≡ same j k
same_is j k true h = sym (eq-eqb (number j) (number k) (ap number (h.0 refl)))
same_is j k false h = sym (ne_eqb (number j) (number k) (λ n. never (sym (h.1 (once j k n)))))

pub kind_is : (k : Kind) (e : Entry) → find_kind k ≡ Some e → e.kind ≡ k
unfolding find_kind
kind_is k e h = let z : Some e.kind ≡ Some k = sym (ap (option_map (λ r. r.kind)) h) ∙ at_number k in cc

pub in_table : (q : Entry → Bool) → T (every q rows) → (k : Kind) → (e : Entry) × (find_kind k ≡ Some e) × (e.kind ≡ k) × (q e ≡ true)
unfolding find_kind
in_table q t k = go (find_kind k) refl
  where
    go : (f : Option Entry) → find_kind k ≡ f → (e : Entry) × (find_kind k ≡ Some e) × (e.kind ≡ k) × (q e ≡ true)
    go (Some e) h = (e, h, kind_is k e h, given_every (λ r. same r.kind k) e q rows t h)
    go None h = let z : None ≡ Some k = sym (ap (option_map (λ r. r.kind)) h) ∙ at_number k in cc

-- every code of the table leaves room for a count of four bits
codes_small : T (every (λ e. ltb e.code 0o106000) rows)
unfolding rows
codes_small = tt

pub code_small : (k : Kind) (e : Entry) → find_kind k ≡ Some e → e.code < 0o106000
unfolding find_kind
code_small k e h = ltb-true e.code 0o106000 (given_every (λ r. same r.kind k) e (λ r. ltb r.code 0o106000) rows codes_small h)
