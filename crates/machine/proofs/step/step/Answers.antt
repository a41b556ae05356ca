-- `step::step` meets its contract: a run of one step is a step. Assumes nothing.
use mathlib.Core.Path.{refl, sym, ◌∙◌}
use Rattle.machine.specs.Step.{stepped}
use Rattle.machine.proofs.Running.{one_step}
use Rattle.machine.proofs.step.step.Goals as goal

pub go-ran-requires : goal.go-ran-requires
go-ran-requires c = sym c.is_good_call.ensures ∙ c.if-is_good_call.true

pub returns-then-is_good_call : goal.returns-then-is_good_call
returns-then-is_good_call c = one_step _ _ _ c.go-ran.ensures refl

pub returns : goal.returns
unfolding stepped
returns c = record { outcome = rw (c.settle.ensures, ← c.is_good_call.ensures, c.if-is_good_call.false); memory = rw (← c.is_good_call.ensures, c.if-is_good_call.false); registers = refl }
