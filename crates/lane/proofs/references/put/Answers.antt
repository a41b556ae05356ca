-- `lane::references::put` meets its contract. Assumes nothing.
use Rattle.std.proofs.Common.{refl}
use Rattle.lane.proofs.Ways.{putting}
use Rattle.lane.proofs.references.put.Goals as goal

pub returns : goal.returns
returns c = putting _ _ _ c.args.at c.args.value c.args.to (c.in_ok-store.ensures _ _ refl) c.at.ensures
