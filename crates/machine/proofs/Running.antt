-- A run, one step after another: what a step's answer makes of the steps that are left.
--     went_on, stopped_by    a step that replied 0, and one that did not
--     turn_on, turn_out      the same after steps of a budget
--     finished               the budget is spent
--     entered_none, entered_one, ended_at_once    the first step
--     rolled, rolling        steps of the lane
--     ran_one, one_step      a run of one step is a step
-- Assumes nothing.
use Prim.Native.Nat.{ℕ, suc, ◌+◌, ◌-◌, ◌<◌, ◌≤◌}
use native.Mathlib.Omega.{arith}
use native.Mathlib.Nat.{zero-add, add-zero, sub-zero, add_assoc, suc-add, add-suc}
use native.Mathlib.Numerals.{add-one}
use mathlib.Core.Path.{◌≡◌, refl, sym, ap, ap₂, ◌∙◌}
use mathlib.Core.Bool.{Bool, true, false}
use mathlib.Core.List.{List}
use lib.Dec.{leb}
use lib.ListN.{length}
use Rattle.word.specs.Words.{weight}
use Rattle.acts.specs.Replies.{number}
use Rattle.acts.specs.Acts.{Ends, exec, answer, left, settled}
use Rattle.rules.specs.Rules.{step_act}
use Rattle.lane.specs.Lane.{Rolls, none, one_more as more_by_one}
use Rattle.std.specs.Prelude.{Result, Ok, Err}
use Rattle.machine.specs.Turns.{plus, ended_by, Turned}
use Rattle.acts.specs.declared.replies.Stop.{Stop}
use Rattle.acts.proofs.Operands.{settled_given}
use Rattle.machine.specs.Step.{good_call, stepped, Leaves, ending, counting, after, running, ran, Goes, Steps}
use Rattle.acts.specs.declared.record.Registers.{Registers}
use Rattle.acts.specs.declared.replies.Refusal.{Refusal}
use Rattle.acts.specs.declared.replies.Reply.{Reply}
use Rattle.acts.specs.declared.replies.Stepped.{Stepped}
use Rattle.acts.specs.declared.replies.Ran.{Ran}
use Rattle.machine.proofs.Good.{good_stepped, good_kept}

pub plus_none : (l : Leaves) → l ≡ plus 0 l
plus_none l = rw zero-add

pub plus_one : (n : ℕ) (l : Leaves) → plus n (counting l) ≡ plus (n + 1) l
plus_one n l = rw add_assoc

module _ (pages : List ℕ) (r : Registers) (m : List ℕ) (good : good_call (length pages) (length m) r ≡ true) (g : Result Registers Stop) (later : List ℕ)
    (e : Ends m (exec pages (step_act r) r m) g later) where
  outcome : answer r (stepped pages r m) ≡ settled r g
  outcome = rw (good_stepped pages r m good, e.outcome) (sym (settled_given r (exec pages (step_act r) r m)))

  memory : left m (stepped pages r m) ≡ later
  memory = rw (good_stepped pages r m good) (sym e.memory)

  going : (n : ℕ) → running pages (suc n) r m ≡ after (settled r g) later (running pages n (settled r g).registers later)
  unfolding running
  going n = ap₂ (λ (x : Stepped) (l : List ℕ). after x l (running pages n x.registers l)) outcome memory

  next : good_call (length pages) (length later) (settled r g).registers ≡ true
  next = rw (outcome, memory) at (good_kept pages r m good)

-- a turn by what the step gave
module _ (pages : List ℕ) (r : Registers) (m : List ℕ) (good : good_call (length pages) (length m) r ≡ true) (later : List ℕ) where
  pub went_on : (s : Registers) → Ends m (exec pages (step_act r) r m) (Ok s) later → Turned pages r m (Ok s) later
  went_on s e = (next pages r m good (Ok s) later e, λ left. going pages r m good (Ok s) later e left)

  pub stopped_by : (stop : Stop) → Ends m (exec pages (step_act r) r m) (Err stop) later → Turned pages r m (Err (ended_by stop r)) later
  stopped_by Stop.Violation e = (omega arith, λ left. going pages r m good (Err Stop.Violation) later e left)
  stopped_by (Stop.Refused refusal) e = refusals refusal e
    where
      refusals : (refusal : Refusal) → Ends m (exec pages (step_act r) r m) (Err (Stop.Refused refusal)) later
          → Turned pages r m (Err (ended_by (Stop.Refused refusal) r)) later
      refusals Refusal.InputOutput e = (omega arith, λ left. going pages r m good (Err (Stop.Refused Refusal.InputOutput)) later e left)
      refusals Refusal.Endless e = (omega arith, λ left. going pages r m good (Err (Stop.Refused Refusal.Endless)) later e left)
      refusals (Refusal.Absent page) e = (omega arith, λ left. going pages r m good (Err (Stop.Refused (Refusal.Absent page))) later e left)
      refusals Refusal.InRegisters e = (omega arith, λ left. going pages r m good (Err (Stop.Refused Refusal.InRegisters)) later e left)
      refusals Refusal.NotBuilt e = (omega arith, λ left. going pages r m good (Err (Stop.Refused Refusal.NotBuilt)) later e left)
      refusals Refusal.TrapCell e = (omega arith, λ left. going pages r m good (Err (Stop.Refused Refusal.TrapCell)) later e left)
  stopped_by Stop.BadCall e = (omega arith, λ left. going pages r m good (Err Stop.BadCall) later e left)

-- after `count` steps of a budget, one more, which goes on or ends the run
module _ (pages m n : List ℕ) (r : Registers) {start : Leaves} (budget count : ℕ) (few : count < budget)
    (so_far : start ≡ plus count (running pages (budget - count) r m)) where
  before : start ≡ plus count (running pages (suc (budget - (count + 1))) r m)
  before =
      let e : budget - count ≡ suc (budget - (count + 1)) = omega arith in
      so_far ∙ ap (λ (k : ℕ). plus count (running pages k r m)) e

  pub turn_on : (s : Registers) → ((left : ℕ) → running pages (suc left) r m ≡ counting (running pages left s n))
      → start ≡ plus (count + 1) (running pages (budget - (count + 1)) s n)
  turn_on s h = before ∙ ap (plus count) (h (budget - (count + 1))) ∙ plus_one count (running pages (budget - (count + 1)) s n)

  pub turn_out : {x : Ran} → ((left : ℕ) → running pages (suc left) r m ≡ record { ran = x; memory = n })
      → start ≡ plus count (record { ran = x; memory = n })
  turn_out h = before ∙ ap (plus count) (h (budget - (count + 1)))

-- the budget is spent
pub finished : (pages : List ℕ) (budget count : ℕ) (r : Registers) {m : List ℕ} {l : Leaves} → count ≡ budget
    → l ≡ plus count (running pages (budget - count) r m) → Goes l (record { reply = Reply.Completed; count = count; registers = r }) m
unfolding running
finished pages budget count r {m} {l} e h =
    let z : budget - count ≡ 0 = omega arith in
    record { outcome = rw (h, z, add-zero); memory = rw (h, z) }

-- the first step of a run, where a trap waits, or none
pub record Entered (pages : List ℕ) (budget : ℕ) (r : Registers) (m : List ℕ) (s : Registers) (n : List ℕ) (count : ℕ) : Type 0 where
  pub few : count ≤ budget
  pub good : good_call (length pages) (length n) s ≡ true
  pub goes : running pages budget r m ≡ plus count (running pages (budget - count) s n)

pub entered_none : {pages m : List ℕ} {r : Registers} (budget : ℕ) → good_call (length pages) (length m) r ≡ true → Entered pages budget r m r m 0
entered_none budget good = record { few = omega arith; good = good; goes = rw sub-zero (plus_none _) }

pub entered_one : {pages m n : List ℕ} {r s : Registers} (budget : ℕ) → (budget ≡ 0 → ⊥) → Turned pages r m (Ok s) n → Entered pages budget r m s n 1
entered_one {pages} {m} {n} {r} {s} budget some h =
    record { few = omega arith; good = h.0; goes = turn_on pages m n r budget 0 (omega arith) (rw sub-zero (plus_none _)) s h.1 }

pub ended_at_once : (pages m n : List ℕ) (r : Registers) {x : Ran} (budget : ℕ) → (budget ≡ 0 → ⊥) → Turned pages r m (Err x) n
    → Goes (running pages budget r m) x n
ended_at_once pages m n r budget some h =
    let q : budget ≡ suc (budget - 1) = omega arith in
    let e = ap (λ (k : ℕ). running pages k r m) q ∙ h.1 (budget - 1) in
    record { outcome = sym (ap (λ (l : Leaves). l.ran) e); memory = sym (ap (λ (l : Leaves). l.memory) e) }

-- Steps of the lane, one after another: they are steps of the run, and the call stays good.
pub record RolledOn (pages : List ℕ) (r : Registers) (m : List ℕ) (count : ℕ) (s : Registers) (n : List ℕ) : Type 0 where
  pub good : good_call (length pages) (length n) s ≡ true
  pub goes : (left : ℕ) → running pages (count + left) r m ≡ plus count (running pages left s n)

pub rolled : {pages m : List ℕ} {r : Registers} {n : List ℕ} {s : Registers} {count : ℕ} → good_call (length pages) (length m) r ≡ true
    → Rolls pages r m count s n → RolledOn pages r m count s n
rolled good none = record { good = good; goes = λ left. rw zero-add (plus_none _) }
rolled {pages} {m} {r} {n = later} {s = t} good (more_by_one {count = k} {s = s} {n = n} h e) =
    let before = rolled good h in
    let done : Ends n (exec pages (step_act s) s n) (Ok t) later = rw e (record { outcome = refl; memory = refl }) in
    let turn = went_on pages s n before.good later t done in
    record {
      good = turn.0;
      goes = λ left. rw (suc-add, ← add-suc)
          (before.goes (suc left) ∙ ap (plus k) (turn.1 left)
          ∙ plus_one k (running pages left t later) ∙ rw add-one);
    }

-- after `count` steps of a budget, those of the lane
pub rolling : {pages m n : List ℕ} {r s : Registers} {start : Leaves} (budget count more : ℕ) → count ≤ budget → more ≤ budget - count
    → start ≡ plus count (running pages (budget - count) r m) → RolledOn pages r m more s n
    → start ≡ plus (count + more) (running pages (budget - (count + more)) s n)
rolling {pages} {m} {n} {r} {s} budget count more l k e h =
    let q : budget - count ≡ more + (budget - (count + more)) = omega arith in
    e ∙ ap (λ (j : ℕ). plus count (running pages j r m)) q ∙ ap (plus count) (h.goes (budget - (count + more))) ∙ rw add_assoc

after_one : (reply : Reply) (s : Registers) (later : List ℕ)
    → after (record { reply = reply; registers = s }) later (ending Reply.Completed 0 s later) ≡ ending reply (weight (leb (number reply) 1)) s later
after_one Reply.Completed s later = refl
after_one Reply.Violation s later = refl
after_one (Reply.Refused Refusal.InputOutput) s later = refl
after_one (Reply.Refused Refusal.Endless) s later = refl
after_one (Reply.Refused (Refusal.Absent page)) s later = refl
after_one (Reply.Refused Refusal.InRegisters) s later = refl
after_one (Reply.Refused Refusal.NotBuilt) s later = refl
after_one (Reply.Refused Refusal.TrapCell) s later = refl
after_one Reply.BadCall s later = refl

running_one : (pages : List ℕ) (r : Registers) (m : List ℕ)
    → running pages 1 r m
    ≡ ending (answer r (stepped pages r m)).reply (weight (leb (number (answer r (stepped pages r m)).reply) 1)) (answer r (stepped pages r m)).registers (left m (stepped pages r m))
unfolding running
running_one pages r m = after_one (answer r (stepped pages r m)).reply (answer r (stepped pages r m)).registers (left m (stepped pages r m))

ran_good : (pages : List ℕ) (r : Registers) (m : List ℕ) → good_call (length pages) (length m) r ≡ true → ran pages 1 r m ≡ running pages 1 r m
unfolding ran
ran_good pages r m e = rw e

ran_bad : (pages : List ℕ) (r : Registers) (m : List ℕ) → good_call (length pages) (length m) r ≡ false
    → ran pages 1 r m
    ≡ ending (answer r (stepped pages r m)).reply (weight (leb (number (answer r (stepped pages r m)).reply) 1)) (answer r (stepped pages r m)).registers (left m (stepped pages r m))
unfolding ran stepped
ran_bad pages r m e = rw e

-- the same of a call that is good or bad
pub ran_one : (pages : List ℕ) (r : Registers) (m : List ℕ)
    → ran pages 1 r m
    ≡ ending (answer r (stepped pages r m)).reply (weight (leb (number (answer r (stepped pages r m)).reply) 1)) (answer r (stepped pages r m)).registers (left m (stepped pages r m))
ran_one pages r m = go (good_call (length pages) (length m) r) refl
  where
    abbreviated : Leaves
    abbreviated = ending (answer r (stepped pages r m)).reply (weight (leb (number (answer r (stepped pages r m)).reply) 1)) (answer r (stepped pages r m)).registers (left m (stepped pages r m))

    go : (b : Bool) → good_call (length pages) (length m) r ≡ b → ran pages 1 r m ≡ abbreviated
    go true e = ran_good pages r m e ∙ running_one pages r m
    go false e = ran_bad pages r m e

pub one_step : (pages : List ℕ) (r : Registers) (m : List ℕ) {t : Ran} {n : List ℕ} {s : Stepped} → Goes (running pages 1 r m) t n
    → s ≡ record { reply = t.reply; registers = t.registers } → Steps pages r m s pages n
one_step pages r m h e =
    record {
      outcome = e ∙ ap (λ (q : Ran). record { reply = q.reply; registers = q.registers }) (h.outcome ∙ ap (λ (l : Leaves). l.ran) (running_one pages r m));
      memory = h.memory ∙ ap (λ (l : Leaves). l.memory) (running_one pages r m);
      registers = refl;
    }
