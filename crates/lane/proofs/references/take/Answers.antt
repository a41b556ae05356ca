-- `lane::references::take` meets its contract. Assumes nothing.
use Rattle.lane.proofs.Ways.{taking}
use Rattle.lane.proofs.references.take.Goals as goal

pub returns : goal.returns
returns c = taking _ _ _ c.args.taking c.args.at 1 c.read.ensures c.in_ok-v.ensures.value c.apply.ensures
