-- Each promise fixes its outcome: two outcomes that satisfy a function's own contract, as its `Reads` has it, have the same result
-- and leave every lent slice the same.
--     answers_tight, calls_tight    of the records of specs/Calls
-- then a theorem for each call, in the order of src/: fresh, step, run, read, write.
-- Assumes nothing.
use Prim.Native.Nat.{ℕ}
use borrow.Fn.Kinds.{ended_of, res_t, Dens}
use denote.Triple.Clauses.{AtExit}
use contract.Lifetimes.{Lfts}
use mathlib.Core.Path.{◌≡◌, sym, ◌∙◌}
use mathlib.Core.List.{List}
use Rattle.acts.proofs.Tight.{OneMemory}
use Rattle.a400.specs.Calls.{Answered, Answers, Called, Calls}
use Rattle.a400.proofs.calls.a400_fresh.Kinds as fresh
use Rattle.a400.proofs.calls.a400_fresh.Reads as fresh_reads
use Rattle.a400.proofs.calls.a400_step.Kinds as step
use Rattle.a400.proofs.calls.a400_step.Reads as step_reads
use Rattle.a400.proofs.calls.a400_run.Kinds as run
use Rattle.a400.proofs.calls.a400_run.Reads as run_reads
use Rattle.a400.proofs.fields.a400_read.Kinds as read
use Rattle.a400.proofs.fields.a400_read.Reads as read_reads
use Rattle.a400.proofs.fields.a400_write.Kinds as write
use Rattle.a400.proofs.fields.a400_write.Reads as write_reads

pub answers_tight : {a : Answered} {x y : ℕ} {v w : List ℕ} → Answers a x v → Answers a y w → (x ≡ y) × (v ≡ w)
answers_tight p q = (p.outcome ∙ sym q.outcome, p.words ∙ sym q.words)

pub calls_tight : {c : Called} {pages : List ℕ} {x y : ℕ} {v w k l m n : List ℕ}
    → Calls c pages x v k m → Calls c pages y w l n → (x ≡ y) × (v ≡ w) × (k ≡ l) × (m ≡ n)
calls_tight p q =
    (p.outcome ∙ sym q.outcome, p.words ∙ sym q.words, p.registers ∙ sym q.registers, p.memory ∙ sym q.memory)

pub a400_fresh_tight : OneMemory 1 fresh.ps fresh.r fresh_reads.Post (λ κs s. s.0.now)
a400_fresh_tight κs a x y s t p q = answers_tight p q

pub a400_step_tight :
    (κs : Lfts 3) (a : Dens κs step.ps) (x y : (res_t step.r κs).Denot) (s t : AtExit (ended_of 3 step.ps step.r) κs)
    → step_reads.Post κs a x s → step_reads.Post κs a y t
    → (x ≡ y) × (s.0.now ≡ t.0.now) × (s.1.0.now ≡ t.1.0.now) × (s.1.1.0.now ≡ t.1.1.0.now)
a400_step_tight κs a x y s t p q = calls_tight p q

pub a400_run_tight :
    (κs : Lfts 4) (a : Dens κs run.ps) (x y : (res_t run.r κs).Denot) (s t : AtExit (ended_of 4 run.ps run.r) κs)
    → run_reads.Post κs a x s → run_reads.Post κs a y t
    → ((x ≡ y) × (s.0.now ≡ t.0.now) × (s.1.0.now ≡ t.1.0.now) × (s.1.1.0.now ≡ t.1.1.0.now))
    × (s.1.1.1.1.0.now ≡ t.1.1.1.1.0.now)
a400_run_tight κs a x y s t p q = (calls_tight p.calls q.calls, p.count ∙ sym q.count)

pub a400_read_tight : OneMemory 1 read.ps read.r read_reads.Post (λ κs s. s.1.0.now)
a400_read_tight κs a x y s t p q = answers_tight p q

pub a400_write_tight : OneMemory 2 write.ps write.r write_reads.Post (λ κs s. s.1.0.now)
a400_write_tight κs a x y s t p q = answers_tight p q
