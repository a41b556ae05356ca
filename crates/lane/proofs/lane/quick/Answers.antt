-- `lane::lane::quick` meets its contract. Assumes nothing.
use native.Mathlib.Omega.{arith}
use Rattle.lane.proofs.Ways.{step_at, tried, carrying}
use Rattle.lane.proofs.lane.quick.Goals as goal
use Rattle.lane.proofs.lane.quick.Goals.{then-word-ge32768+else-word-lt2, else-word-ge32768}

pub returns-then-word-lt2 : goal.returns-then-word-lt2
returns-then-word-lt2 c = let a = c.args in tried a.pages.now a.memory.now a.r _ _ _ c.extend.result (step_at _ _ _ (omega arith) c.read.ensures c.in_ok-word.ensures.value) c.extend.ensures

pub returns : goal.returns
returns c = let a = c.args in tried a.pages.now a.memory.now a.r _ _ _ c.carry.result (carrying _ _ _ (omega arith) c.read.ensures c.in_ok-word.ensures.value (elim c.if-word-ge32768.branch [ then-word-ge32768+else-word-lt2 w ↦ λ l. absurd (omega arith) | else-word-ge32768 w ↦ λ l. omega arith ]) c.in_ok-at.ensures) c.carry.ensures
