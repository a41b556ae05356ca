-- Each promise fixes its outcome: two outcomes that satisfy a function's own contract, as its `Reads` has it, are equal.
--     OneMemory      what that says of a contract whose function is lent memory to be written: result and later memory
--     ends_tight     two outcomes of one program's end are equal
--     gives_tight    two answers of the reading part of a program are equal: a program may go on with the value, and may end in two ways
-- A function that lends nothing to be written has `OneResult` of the word layer. In the order of src/: replies, record, reads,
-- stores.
-- Assumes nothing.
use Prim.Native.Nat.{ℕ}
use native.Mathlib.Omega.{arith}
use borrow.Fn.Kinds.{ParamKind, ResultKind, Out, ended_of, res_t, Dens}
use denote.Triple.Clauses.{AtExit}
use contract.Lifetimes.{Lfts}
use mathlib.Core.Path.{◌≡◌, refl, sym, ◌∙◌, ap}
use mathlib.Core.List.{List}
use Rattle.word.proofs.Tight.{OneResult}
use Rattle.acts.specs.Record.{with_a}
use Rattle.acts.specs.Acts.{Act, fin, violate, Outcome, done, violated, refused, bad_call, exec, troubled, Ends, Gives}
use Rattle.acts.specs.declared.record.Registers.{Registers}
use Rattle.acts.specs.declared.replies.Stop.{Stop}
use Rattle.maps.specs.declared.troubles.Trouble.{Trouble}
use Rattle.acts.specs.declared.replies.Refusal.{Refusal}
use Rattle.acts.proofs.replies.settle.Kinds as settle_kinds
use Rattle.acts.proofs.replies.settle.Reads as settle_reads
use Rattle.acts.proofs.replies.StopFromTrouble.from.Kinds as stop_from_kinds
use Rattle.acts.proofs.replies.StopFromTrouble.from.Reads as stop_from_reads
use Rattle.acts.proofs.replies.U32FromReply.from.Kinds as number_kinds
use Rattle.acts.proofs.replies.U32FromReply.from.Reads as number_reads
use Rattle.acts.proofs.record.Registers.fresh.Kinds as fresh_kinds
use Rattle.acts.proofs.record.Registers.fresh.Reads as fresh_reads
use Rattle.acts.proofs.record.Registers.register.Kinds as register_kinds
use Rattle.acts.proofs.record.Registers.register.Reads as register_reads
use Rattle.acts.proofs.record.Registers.with_register.Kinds as with_register_kinds
use Rattle.acts.proofs.record.Registers.with_register.Reads as with_register_reads
use Rattle.acts.proofs.record.Registers.index.Kinds as index_kinds
use Rattle.acts.proofs.record.Registers.index.Reads as index_reads
use Rattle.acts.proofs.record.Registers.with_index.Kinds as with_index_kinds
use Rattle.acts.proofs.record.Registers.with_index.Reads as with_index_reads
use Rattle.acts.proofs.record.Registers.at.Kinds as at_kinds
use Rattle.acts.proofs.record.Registers.at.Reads as at_reads
use Rattle.acts.proofs.record.Registers.ahead.Kinds as ahead_kinds
use Rattle.acts.proofs.record.Registers.ahead.Reads as ahead_reads
use Rattle.acts.proofs.record.skipping.Kinds as skipping_kinds
use Rattle.acts.proofs.record.skipping.Reads as skipping_reads
use Rattle.acts.proofs.record.Registers.skipping.Kinds as go_skipping_kinds
use Rattle.acts.proofs.record.Registers.skipping.Reads as go_skipping_reads
use Rattle.acts.proofs.record.Registers.interrupted.Kinds as interrupted_kinds
use Rattle.acts.proofs.record.Registers.interrupted.Reads as interrupted_reads
use Rattle.acts.proofs.record.Registers.is_valid.Kinds as is_valid_kinds
use Rattle.acts.proofs.record.Registers.is_valid.Reads as is_valid_reads
use Rattle.acts.proofs.record.Registers.apart.Kinds as apart_kinds
use Rattle.acts.proofs.record.Registers.apart.Reads as apart_reads
use Rattle.acts.proofs.record.Registers.read.Kinds as read_kinds
use Rattle.acts.proofs.record.Registers.read.Reads as read_reads
use Rattle.acts.proofs.record.Registers.follow.Kinds as follow_kinds
use Rattle.acts.proofs.record.Registers.follow.Reads as follow_reads
use Rattle.acts.proofs.record.Registers.from_words.Kinds as from_words_kinds
use Rattle.acts.proofs.record.Registers.from_words.Reads as from_words_reads
use Rattle.acts.proofs.record.Registers.to_words.Kinds as to_words_kinds
use Rattle.acts.proofs.record.Registers.to_words.Reads as to_words_reads
use Rattle.acts.proofs.reads.get_address.Kinds as get_address
use Rattle.acts.proofs.reads.get_address.Reads as get_address_reads
use Rattle.acts.proofs.stores.put_last.Kinds as put_last
use Rattle.acts.proofs.stores.put_last.Reads as put_last_reads
use Rattle.acts.proofs.stores.put.Kinds as put
use Rattle.acts.proofs.stores.put.Reads as put_reads
use Rattle.std.specs.Prelude.{Result, Ok, Err}

abbrev pub OneMemory : (n : ℕ) (ps : List (ParamKind n)) (r : ResultKind n) → Out n ps r → ((κs : Lfts n) → AtExit (ended_of n ps r) κs → List ℕ) → Type 0
OneMemory n ps r Post memory =
    (κs : Lfts n) (a : Dens κs ps) (x y : (res_t r κs).Denot) (s t : AtExit (ended_of n ps r) κs)
    → Post κs a x s → Post κs a y t → (x ≡ y) × (memory κs s ≡ memory κs t)

pub ends_tight : {m : List ℕ} {z : Outcome} {x y : Result Registers Stop} {n k : List ℕ}
    → Ends m z x n → Ends m z y k → (x ≡ y) × (n ≡ k)
ends_tight p q = (p.outcome ∙ sym q.outcome, p.memory ∙ sym q.memory)

abbrev in_a : Outcome → ℕ
in_a (done s m) = s.a
in_a violated = 0
in_a (refused refusal) = 0
in_a bad_call = 0

abbrev is_done : Outcome → ℕ
is_done (done s m) = 1
is_done violated = 0
is_done (refused refusal) = 0
is_done bad_call = 0

not_done : (t : Trouble) → is_done (troubled t) ≡ 0
not_done Trouble.Closed = refl
not_done (Trouble.Absent page) = refl
not_done Trouble.Endless = refl
not_done Trouble.InRegisters = refl

-- a result tells the trouble that led to it
abbrev refused_by : Refusal → Trouble
refused_by Refusal.InputOutput = Trouble.Closed
refused_by Refusal.Endless = Trouble.Endless
refused_by (Refusal.Absent page) = Trouble.Absent page
refused_by Refusal.InRegisters = Trouble.InRegisters
refused_by Refusal.NotBuilt = Trouble.Closed
refused_by Refusal.TrapCell = Trouble.Closed

abbrev ended_by : Outcome → Trouble
ended_by (done s m) = Trouble.Closed
ended_by violated = Trouble.Closed
ended_by (refused refusal) = refused_by refusal
ended_by bad_call = Trouble.Closed

told : (t : Trouble) → ended_by (troubled t) ≡ t
told Trouble.Closed = refl
told (Trouble.Absent page) = refl
told Trouble.Endless = refl
told Trouble.InRegisters = refl

unlike : {pages : List ℕ} {part : (ℕ → Act) → Act} {r : Registers} {m : List ℕ} {X : Type 0} (v : ℕ) (t : Trouble)
    → Gives pages part r m (Ok v) → Gives pages part r m (Err t) → X
unfolding exec
unlike v t p q =
    let k : ℕ → Act = λ w. fin (λ s. s) in
    let e = ap is_done (sym (p.goes k) ∙ q.goes k) ∙ not_done t in
    absurd (omega (arith, e))

pub gives_tight : {pages : List ℕ} {part : (ℕ → Act) → Act} {r : Registers} {m : List ℕ} (g g' : Result ℕ Trouble)
    → Gives pages part r m g → Gives pages part r m g' → g ≡ g'
unfolding exec
gives_tight (Ok v) (Ok v') p p' =
    let k : ℕ → Act = λ w. fin (λ t. with_a t w) in
    ap Ok (ap in_a (sym (p.goes k) ∙ p'.goes k))
gives_tight (Ok v) (Err t) p p' = unlike v t p p'
gives_tight (Err t) (Ok v) p p' = unlike v t p' p
gives_tight (Err t) (Err t') p p' =
    let e = sym (p.goes (λ _. violate)) ∙ p'.goes (λ _. violate) in
    ap Err (sym (told t) ∙ ap ended_by e ∙ told t')

pub settle_tight : OneResult 0 settle_kinds.ps settle_kinds.r settle_reads.Post
settle_tight κs a x y s t p q = p ∙ sym q

pub stop_from_tight : OneResult 0 stop_from_kinds.ps stop_from_kinds.r stop_from_reads.Post
stop_from_tight κs a x y s t p q = p ∙ sym q

pub number_tight : OneResult 0 number_kinds.ps number_kinds.r number_reads.Post
number_tight κs a x y s t p q = p ∙ sym q

pub fresh_tight : OneResult 0 fresh_kinds.ps fresh_kinds.r fresh_reads.Post
fresh_tight κs a x y s t p q = p ∙ sym q

pub register_tight : OneResult 0 register_kinds.ps register_kinds.r register_reads.Post
register_tight κs a x y s t p q = p ∙ sym q

pub with_register_tight : OneResult 0 with_register_kinds.ps with_register_kinds.r with_register_reads.Post
with_register_tight κs a x y s t p q = p ∙ sym q

pub index_tight : OneResult 0 index_kinds.ps index_kinds.r index_reads.Post
index_tight κs a x y s t p q = p ∙ sym q

pub with_index_tight : OneResult 0 with_index_kinds.ps with_index_kinds.r with_index_reads.Post
with_index_tight κs a x y s t p q = p ∙ sym q

pub at_tight : OneResult 0 at_kinds.ps at_kinds.r at_reads.Post
at_tight κs a x y s t p q = p ∙ sym q

pub ahead_tight : OneResult 0 ahead_kinds.ps ahead_kinds.r ahead_reads.Post
ahead_tight κs a x y s t p q = p ∙ sym q

pub skipping_tight : OneResult 0 skipping_kinds.ps skipping_kinds.r skipping_reads.Post
skipping_tight κs a x y s t p q = p ∙ sym q

pub go_skipping_tight : OneResult 0 go_skipping_kinds.ps go_skipping_kinds.r go_skipping_reads.Post
go_skipping_tight κs a x y s t p q = p ∙ sym q

pub interrupted_tight : OneResult 0 interrupted_kinds.ps interrupted_kinds.r interrupted_reads.Post
interrupted_tight κs a x y s t p q = p ∙ sym q

pub is_valid_tight : OneResult 0 is_valid_kinds.ps is_valid_kinds.r is_valid_reads.Post
is_valid_tight κs a x y s t p q = p ∙ sym q

pub apart_tight : OneResult 0 apart_kinds.ps apart_kinds.r apart_reads.Post
apart_tight κs a x y s t p q = p ∙ sym q

pub read_tight : OneResult 2 read_kinds.ps read_kinds.r read_reads.Post
read_tight κs a x y s t p q = p ∙ sym q

pub follow_tight : OneResult 2 follow_kinds.ps follow_kinds.r follow_reads.Post
follow_tight κs a x y s t p q = p ∙ sym q

pub from_words_tight : OneResult 1 from_words_kinds.ps from_words_kinds.r from_words_reads.Post
from_words_tight κs a x y s t p q = p ∙ sym q

pub to_words_tight : OneResult 0 to_words_kinds.ps to_words_kinds.r to_words_reads.Post
to_words_tight κs a x y s t p q = p ∙ sym q

pub get_address_tight : OneResult 2 get_address.ps get_address.r get_address_reads.Post
get_address_tight κs a x y s t p q = gives_tight x y p q

pub put_last_tight : OneMemory 2 put_last.ps put_last.r put_last_reads.Post (λ κs s. s.1.1.1.1.1.0.now)
put_last_tight κs a x y s t p q = ends_tight p q

pub put_tight : OneMemory 2 put.ps put.r put_reads.Post (λ κs s. s.1.1.1.1.1.1.0.now)
put_tight κs a x y s t p q = ends_tight p q
