use Rattle.std.proofs.Common.{◌+◌, ◌-◌}
use Rattle.strings.proofs.Copying.{Copied}
use Rattle.strings.proofs.strings.Element.copy_each.Given as goal

abbrev pub invariant-loop-k : goal.invariant-loop-k
invariant-loop-k l = Copied l.self l.source l.target l.n l.initial.memory (l.source + l.k) (l.target + l.k) (l.n - l.k) l.memory
