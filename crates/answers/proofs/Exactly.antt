-- The theorems of specs/Exactly, by name.
--     ending_of            the result of a program, by its number
--     running_fair .. running_count    of the steps of a good call: the reply, and the count
-- Assumes nothing.
use Prim.Native.Nat.{ℕ, zero, suc, ◌≤◌}
use native.Mathlib.Omega.{arith}
use mathlib.Core.Path.{◌≡◌, refl}
use mathlib.Core.Bool.{Bool, true, false, cond, ◌&&◌, and-eq-true_iff}
use mathlib.Core.List.{List}
use lib.Dec.{eqb, leb}
use lib.ListN.{length}
use Rattle.word.specs.Words.{weight}
use Rattle.code.proofs.Truth.{never}
use Rattle.acts.specs.Acts.{Outcome, done, violated, refused, bad_call, answer, left}
use Rattle.acts.specs.Replies.{number}
use Rattle.machine.specs.Step.{good_call, stepped, Leaves, ending, counting, after, running, ran}
use Rattle.acts.specs.declared.record.Registers.{Registers}
use Rattle.acts.specs.declared.replies.Refusal.{Refusal}
use Rattle.acts.specs.declared.replies.Reply.{Reply}
use Rattle.acts.specs.declared.replies.Stepped.{Stepped}
use Rattle.acts.proofs.Keeping.{Fair, exec_fair}
use Rattle.rules.specs.Rules.{step_act}
use Rattle.machine.proofs.Good.{good_stepped, good_kept}
use Rattle.answers.specs.Exactly.{Ending, completed, interrupted, refused_with, StepGood, RuleRefuses, StepBad, StepGoodOnly, RunBad, RunGoodOnly, RunSpent, RunCount}

pub rule_refuses : RuleRefuses
rule_refuses Refusal.InputOutput = (omega arith, omega arith)
rule_refuses Refusal.Endless = (omega arith, omega arith)
rule_refuses (Refusal.Absent page) = (omega arith, omega arith)
rule_refuses Refusal.InRegisters = (omega arith, omega arith)
rule_refuses Refusal.NotBuilt = (omega arith, omega arith)
rule_refuses Refusal.TrapCell = (omega arith, omega arith)

ending_of : (r : Registers) (x : Outcome) → Fair x → Ending x (number (answer r x).reply)
ending_of r (done s n) t = completed s n refl
ending_of r violated t = interrupted refl
ending_of r (refused refusal) t = refused_with refusal refl
ending_of r bad_call t = absurd t

pub step_good : StepGood
step_good pages r m good = rw (good_stepped pages r m good) (ending_of r _ (exec_fair pages (step_act r) r m))

pub step_bad : StepBad
unfolding stepped
step_bad pages r m bad = rw bad

below_eight : {x : Outcome} {n : ℕ} → Ending x n → n ≤ 7
below_eight (completed s n e) = omega arith
below_eight (interrupted e) = omega arith
below_eight (refused_with refusal e) = (rule_refuses refusal).1

pub step_good_only : StepGoodOnly
step_good_only pages r m good = below_eight (step_good pages r m good)

-- The steps of a good call.

-- what the steps after the first make of a run, where P holds of the end at the first step and follows from the rest
after_holds : (P : Leaves → Type 0) (t : Stepped) (later : List ℕ) (rest : Leaves)
    → (eqb (number t.reply) 0 ≡ true → P (counting rest))
    → (eqb (number t.reply) 0 ≡ false → P (ending t.reply (weight (eqb (number t.reply) 1)) t.registers later))
    → P (after t later rest)
after_holds P t later rest on out = go (eqb (number t.reply) 0) refl
  where
    go : (b : Bool) → eqb (number t.reply) 0 ≡ b
        → P (cond b (counting rest) (ending t.reply (weight (eqb (number t.reply) 1)) t.registers later))
    go true e = on e
    go false e = out e

running_fair : (pages : List ℕ) (budget : ℕ) (r : Registers) (m : List ℕ) → good_call (length pages) (length m) r ≡ true
    → number (running pages budget r m).ran.reply ≤ 7
unfolding running
running_fair pages zero r m good = omega arith
running_fair pages (suc n) r m good =
    after_holds (λ l. number l.ran.reply ≤ 7) (answer r (stepped pages r m)) (left m (stepped pages r m)) _
    (λ e. running_fair pages n _ _ (good_kept pages r m good))
    (λ e. step_good_only pages r m good)

at_most_one : (b : Bool) → weight b ≤ 1
at_most_one true = omega arith
at_most_one false = omega arith

running_count : (pages : List ℕ) (budget : ℕ) (r : Registers) (m : List ℕ) → (running pages budget r m).ran.count ≤ budget
unfolding running
running_count pages zero r m = omega arith
running_count pages (suc n) r m =
    after_holds (λ l. l.ran.count ≤ suc n) (answer r (stepped pages r m)) (left m (stepped pages r m)) _
    (λ e. omega (arith, running_count pages n (answer r (stepped pages r m)).registers (left m (stepped pages r m))))
    (λ e. omega (arith, at_most_one (eqb (number (answer r (stepped pages r m)).reply) 1)))

running_spent : (pages : List ℕ) (budget : ℕ) (r : Registers) (m : List ℕ)
    → number (running pages budget r m).ran.reply ≡ 0 → (running pages budget r m).ran.count ≡ budget
unfolding running
running_spent pages zero r m = λ z. refl
running_spent pages (suc n) r m =
    after_holds (λ l. number l.ran.reply ≡ 0 → l.ran.count ≡ suc n) (answer r (stepped pages r m)) (left m (stepped pages r m)) _
    (λ e z. omega (arith, running_spent pages n (answer r (stepped pages r m)).registers (left m (stepped pages r m)) z))
    (λ e z. never (rw z at e))

-- A run: of a bad call, or the steps of a good one.

ran_holds : (P : Leaves → Type 0) (pages : List ℕ) (budget : ℕ) (r : Registers) (m : List ℕ)
    → P (ending Reply.BadCall 0 r m) → P (running pages budget r m) → P (ran pages budget r m)
unfolding ran
ran_holds P pages budget r m bad good = go (good_call (length pages) (length m) r && leb budget 1000000)
  where
    go : (b : Bool) → P (cond b (running pages budget r m) (ending Reply.BadCall 0 r m))
    go true = good
    go false = bad

pub run_bad : RunBad
unfolding ran
run_bad pages budget r m bad = rw bad

pub run_good_only : RunGoodOnly
unfolding ran
run_good_only pages budget r m good = rw good (running_fair pages budget r m ((and-eq-true_iff (good_call (length pages) (length m) r) (leb budget 1000000)).0 good).0)

pub run_spent : RunSpent
run_spent pages budget r m =
    ran_holds (λ l. number l.ran.reply ≡ 0 → l.ran.count ≡ budget) pages budget r m (λ z. omega arith) (running_spent pages budget r m)

pub run_count : RunCount
run_count pages budget r m = ran_holds (λ l. l.ran.count ≤ budget) pages budget r m (omega arith) (running_count pages budget r m)
