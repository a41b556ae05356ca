use Rattle.std.proofs.Common.{◌≡◌, ◌<◌}
use Rattle.strings.specs.Copies.{Test, Answers, ToldByPages, first_trouble}
use Rattle.strings.proofs.moves.Span.test_pages.Given as goal

-- what is left of the range meets the same trouble first as the whole does
abbrev pub invariant-loop-left : goal.invariant-loop-left
invariant-loop-left g l =
    (l.next < 65536)
    × ((T : Test) → Answers T (goal.F-post g l.test) → ToldByPages T
    → first_trouble T l.self.element l.next l.left ≡ first_trouble T l.self.element l.self.at l.self.count)

abbrev pub decreases-loop-left : goal.decreases-loop-left
decreases-loop-left g l = l.left
