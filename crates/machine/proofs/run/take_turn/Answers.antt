-- `run::take_turn` meets its contract: what a step's outcome makes of a run. Assumes nothing.
use Rattle.machine.proofs.Running.{went_on, stopped_by}
use Rattle.machine.proofs.run.take_turn.Goals as goal

pub returns-in-Ok : goal.returns-in-Ok
returns-in-Ok c = went_on _ _ _ c.requires _ c.in-Ok.s (rw c.in-Ok.is at c.fetch.ensures)

pub returns-in-Err : goal.returns-in-Err
returns-in-Err c = rw c.end_by.ensures (stopped_by _ _ _ c.requires _ c.in-Err.stop (rw c.in-Err.is at c.fetch.ensures))
