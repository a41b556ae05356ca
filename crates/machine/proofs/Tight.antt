-- Each promise fixes its outcome: two outcomes that satisfy a function's own contract, as its `Reads` has it, are equal.
--     OnePages       what that says of a contract whose function is lent page registers and memory, of step and run
-- A function that lends nothing to be written has `OneResult` of the word layer. In the order of src/: step, run.
-- Assumes nothing.
use Prim.Native.Nat.{ℕ}
use borrow.Fn.Kinds.{ParamKind, ResultKind, Out, ended_of, res_t, Dens}
use denote.Triple.Clauses.{AtExit}
use contract.Lifetimes.{Lfts}
use mathlib.Core.Path.{◌≡◌, sym, ◌∙◌}
use mathlib.Core.List.{List}
use Rattle.word.proofs.Tight.{OneResult}
use Rattle.machine.proofs.step.is_good_call.Kinds as is_good_call
use Rattle.machine.proofs.step.is_good_call.Reads as is_good_call_reads
use Rattle.machine.proofs.step.step.Kinds as step
use Rattle.machine.proofs.step.step.Reads as step_reads
use Rattle.machine.proofs.run.run.Kinds as run
use Rattle.machine.proofs.run.run.Reads as run_reads

abbrev pub OnePages : (n : ℕ) (ps : List (ParamKind n)) (r : ResultKind n) → Out n ps r
    → ((κs : Lfts n) → AtExit (ended_of n ps r) κs → List ℕ) → ((κs : Lfts n) → AtExit (ended_of n ps r) κs → List ℕ) → Type 0
OnePages n ps r Post pages memory =
    (κs : Lfts n) (a : Dens κs ps) (x y : (res_t r κs).Denot) (s t : AtExit (ended_of n ps r) κs)
    → Post κs a x s → Post κs a y t → (x ≡ y) × (pages κs s ≡ pages κs t) × (memory κs s ≡ memory κs t)

pub is_good_call_tight : OneResult 0 is_good_call.ps is_good_call.r is_good_call_reads.Post
is_good_call_tight κs a x y s t p q = p ∙ sym q

pub step_tight : OnePages 2 step.ps step.r step_reads.Post (λ κs s. s.1.0.now) (λ κs s. s.1.1.0.now)
step_tight κs a x y s t p q = (p.outcome ∙ sym q.outcome, p.registers ∙ sym q.registers, p.memory ∙ sym q.memory)

pub run_tight : OnePages 2 run.ps run.r run_reads.Post (λ κs s. s.1.1.0.now) (λ κs s. s.1.1.1.0.now)
run_tight κs a x y s t p q = (p.goes.outcome ∙ sym q.goes.outcome, p.registers ∙ sym q.registers, p.goes.memory ∙ sym q.goes.memory)
