use Rattle.lane.specs.Lane.{Rolls}
use Rattle.lane.proofs.lane.lane.Given as goal

abbrev pub invariant-loop-count : goal.invariant-loop-count
invariant-loop-count l = Rolls l.pages l.initial.s l.initial.memory l.count l.s l.memory
