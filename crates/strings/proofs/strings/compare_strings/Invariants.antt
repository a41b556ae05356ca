use Rattle.std.proofs.Common.{◌≡◌}
use Rattle.acts.specs.Acts.{exec}
use Rattle.strings.specs.Strings.{along, comparing}
use Rattle.strings.proofs.strings.compare_strings.Given as goal

-- what is left of the comparison ends as the whole does
abbrev pub invariant-loop-left : goal.invariant-loop-left
invariant-loop-left l =
    exec l.pages (comparing l.u (along l.u l.r.b l.count) l.first l.second l.left) l.r l.memory
    ≡ exec l.pages (comparing l.u (along l.u l.r.b l.count) (along l.u l.r.a 0) (along l.u l.r.b 0) l.count) l.r l.memory

abbrev pub decreases-loop-left : goal.decreases-loop-left
decreases-loop-left l = l.left
