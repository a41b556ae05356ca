-- `run::run` meets its contract: the call is good or refused. Assumes nothing.
use mathlib.Core.Path.{refl, sym, ◌∙◌}
use borrow.Author.Tests.{le-leb, lt-leb}
use Rattle.machine.specs.Step.{ran}
use Rattle.machine.proofs.run.run.Goals as goal

pub go-requires : goal.go-requires
go-requires c = sym c.is_good_call.ensures ∙ c.if-is_good_call.true

pub returns-then-budget-le1000000 : goal.returns-then-budget-le1000000
unfolding ran
returns-then-budget-le1000000 c = record { goes = rw (← c.is_good_call.ensures, c.if-is_good_call.true, le-leb _ _ c.if-budget-le1000000.true) c.go.ensures; registers = refl }

pub returns-else-budget-le1000000 : goal.returns-else-budget-le1000000
unfolding ran
returns-else-budget-le1000000 c = record { goes = rw (← c.is_good_call.ensures, c.if-is_good_call.true, lt-leb _ _ c.if-budget-le1000000.false) (record { outcome = refl; memory = refl }); registers = refl }

pub returns-else-is_good_call : goal.returns-else-is_good_call
unfolding ran
returns-else-is_good_call c = record { goes = rw (← c.is_good_call.ensures, c.if-is_good_call.false) (record { outcome = refl; memory = refl }); registers = refl }
