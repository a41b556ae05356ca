-- `lane::lane::lane` meets its contract. Assumes nothing.
use native.Mathlib.Numerals.{add-one}
use Rattle.lane.specs.Lane.{none, one_more}
use Rattle.lane.proofs.lane.lane.Goals as goal

pub loop-count-init : goal.loop-count-init
loop-count-init c = none

pub loop-count-preserved : goal.loop-count-preserved
loop-count-preserved c = rw add-one (one_more c.loop-count.invariant c.in-Some.ensures)
