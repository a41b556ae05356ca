-- `run::go` meets its contract: a trap's step first, if one waits; after each turn the run is the steps counted and the steps
-- that are left. Assumes nothing.
use native.Mathlib.Omega.{arith}
use native.Mathlib.Nat.{sub-zero}
use mathlib.Core.Path.{◌≡◌, refl, sym, ap, ◌∙◌}
use Rattle.machine.specs.Step.{Leaves}
use Rattle.machine.proofs.Running.{plus_none, finished, turn_on, turn_out, Entered, entered_none, entered_one, ended_at_once, rolled, rolling}
use Rattle.machine.proofs.run.go.Goals as goal
use Rattle.machine.proofs.run.go.Goals.{then-r-ne0+else-budget-eq0+in-Ok, else-r-ne0}

pub returns-then-budget-eq0 : goal.returns-then-budget-eq0
returns-then-budget-eq0 c = finished c.args.pages.now c.args.budget 0 c.args.r (sym c.if-budget-eq0.true) (rw sub-zero (plus_none _))

pub take_turn-requires : goal.take_turn-requires
take_turn-requires c = rw c.apart.ensures c.requires

pub returns-in-Err : goal.returns-in-Err
returns-in-Err c = ended_at_once c.args.pages.now c.args.memory.now _ c.args.r c.args.budget c.if-budget-eq0.false (rw (c.apart.ensures, c.in-Err.is) at c.take_turn.ensures)

pub loop-count-init : goal.loop-count-init
loop-count-init c =
    let e : Entered c.args.pages.now c.args.budget c.args.r c.args.memory.now c.if-r-ne0.s c.if-r-ne0.memory c.if-r-ne0.count =
    elim c.if-r-ne0.branch [
      | then-r-ne0+else-budget-eq0+in-Ok w ↦ rw (w.memory-is, w.s-is, w.count-is, w.apart-s.ensures) (entered_one c.args.budget w.if-budget-eq0.false (rw (w.apart.ensures, w.in-Ok.is) at w.take_turn.ensures))
      | else-r-ne0 w ↦ rw (w.memory-is, w.s-is, w.count-is) (entered_none c.args.budget c.requires)
    ] in
    (e.few, e.good, refl, refl)

pub overflow_sub-budget : goal.overflow_sub-budget
overflow_sub-budget c = omega arith

pub overflow_add-count : goal.overflow_add-count
overflow_add-count c = omega (arith, c.lane-l.ensures.0, c.ranges.budget)

pub returns-then-count-budget : goal.returns-then-count-budget
returns-then-count-budget c =
    let e : Entered c.args.pages.now c.args.budget c.args.r c.args.memory.now c.if-r-ne0.s c.if-r-ne0.memory c.if-r-ne0.count =
    elim c.if-r-ne0.branch [
      | then-r-ne0+else-budget-eq0+in-Ok w ↦ rw (w.memory-is, w.s-is, w.count-is, w.apart-s.ensures) (entered_one c.args.budget w.if-budget-eq0.false (rw (w.apart.ensures, w.in-Ok.is) at w.take_turn.ensures))
      | else-r-ne0 w ↦ rw (w.memory-is, w.s-is, w.count-is) (entered_none c.args.budget c.requires)
    ] in
    let k = c.lane-l.ensures.0 in
    finished _ _ _ _ (omega arith) (e.goes ∙ (rolling c.args.budget c.loop-count.count c.lane-l.result.count c.loop-count.invariant.0 c.lane-l.ensures.0 c.loop-count.invariant.2 (rolled c.loop-count.invariant.1 c.lane-l.ensures.1)))

pub take_turn-requires-in-loop-count : goal.take_turn-requires-in-loop-count
take_turn-requires-in-loop-count c = rw c.apart-in-loop-count.ensures (rolled c.loop-count.invariant.1 c.lane-l.ensures.1).good

pub overflow_add-result : goal.overflow_add-result
overflow_add-result c = omega (arith, (rw (c.apart-in-loop-count.ensures, c.in-Err-take_turn.is) at c.take_turn-in-loop-count.ensures).0, c.if-count-budget.false, c.ranges.budget)

pub returns-in-Err-take_turn : goal.returns-in-Err-take_turn
returns-in-Err-take_turn c =
    let e : Entered c.args.pages.now c.args.budget c.args.r c.args.memory.now c.if-r-ne0.s c.if-r-ne0.memory c.if-r-ne0.count =
    elim c.if-r-ne0.branch [
      | then-r-ne0+else-budget-eq0+in-Ok w ↦ rw (w.memory-is, w.s-is, w.count-is, w.apart-s.ensures) (entered_one c.args.budget w.if-budget-eq0.false (rw (w.apart.ensures, w.in-Ok.is) at w.take_turn.ensures))
      | else-r-ne0 w ↦ rw (w.memory-is, w.s-is, w.count-is) (entered_none c.args.budget c.requires)
    ] in
    let k = turn_out c.args.pages.now _ _ _ c.args.budget _ c.if-count-budget.false (e.goes ∙ (rolling c.args.budget c.loop-count.count c.lane-l.result.count c.loop-count.invariant.0 c.lane-l.ensures.0 c.loop-count.invariant.2 (rolled c.loop-count.invariant.1 c.lane-l.ensures.1))) (rw (c.apart-in-loop-count.ensures, c.in-Err-take_turn.is) at c.take_turn-in-loop-count.ensures).1 in
    record { outcome = sym (ap (λ (l : Leaves). l.ran) k); memory = sym (ap (λ (l : Leaves). l.memory) k) }

pub overflow_add-count-in-loop-count : goal.overflow_add-count-in-loop-count
overflow_add-count-in-loop-count c = omega (arith, c.if-count-budget.false, c.ranges.budget)

pub loop-count-smaller : goal.loop-count-smaller
loop-count-smaller c = omega (arith, c.lane-l.ensures.0)

pub loop-count-preserved : goal.loop-count-preserved
loop-count-preserved c =
    let h = (rw (c.apart-in-loop-count.ensures, c.in-Ok-take_turn.is) at c.take_turn-in-loop-count.ensures) in
    rw c.apart-s-in-Ok-take_turn.ensures (omega (arith, c.if-count-budget.false), h.0, turn_on c.args.pages.now _ _ _ c.args.budget _ c.if-count-budget.false (rolling c.args.budget c.loop-count.count c.lane-l.result.count c.loop-count.invariant.0 c.lane-l.ensures.0 c.loop-count.invariant.2 (rolled c.loop-count.invariant.1 c.lane-l.ensures.1)) _ h.1, c.take_turn-in-loop-count.auto.memory ∙ c.lane-l.auto.memory ∙ c.loop-count.invariant.3)

pub returns : goal.returns
returns c =
    let e : Entered c.args.pages.now c.args.budget c.args.r c.args.memory.now c.if-r-ne0.s c.if-r-ne0.memory c.if-r-ne0.count =
    elim c.if-r-ne0.branch [
      | then-r-ne0+else-budget-eq0+in-Ok w ↦ rw (w.memory-is, w.s-is, w.count-is, w.apart-s.ensures) (entered_one c.args.budget w.if-budget-eq0.false (rw (w.apart.ensures, w.in-Ok.is) at w.take_turn.ensures))
      | else-r-ne0 w ↦ rw (w.memory-is, w.s-is, w.count-is) (entered_none c.args.budget c.requires)
    ] in
    let q : c.loop-count.count ≡ c.args.budget = omega arith in
    finished _ _ _ _ q (e.goes ∙ c.loop-count.invariant.2)
