use Rattle.std.proofs.Common.{◌≡◌, ◌-◌}
use Rattle.maps.specs.Chains.{chased, execute_word, chain}
use Rattle.maps.proofs.pages.Maps.follow.Given as goal

-- what is left of the chain ends as the whole chain does
abbrev pub invariant-loop : goal.invariant-loop
invariant-loop l =
    chased (execute_word l.self.pages.now l.memory l.self.wmap l.a l.b) (32768 - l.counter) l.last ≡ chain l.self.pages.now l.memory l.self.wmap l.word l.a l.b
