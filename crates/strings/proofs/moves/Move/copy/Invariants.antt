use Rattle.strings.proofs.Copying.{Moves}
use Rattle.strings.proofs.moves.Move.copy.Given as goal

abbrev pub invariant-loop-left : goal.invariant-loop-left
invariant-loop-left l = Moves l.pages l.r l.u l.self.from l.self.to l.initial.source l.initial.target l.initial.left l.initial.memory l.source l.target l.left l.memory

abbrev pub decreases-loop-left : goal.decreases-loop-left
decreases-loop-left l = l.left
