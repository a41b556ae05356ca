-- `ways::at_address` meets its contract: a jump ends at once, each other way is carried out by its function. Assumes nothing.
use Rattle.std.proofs.Common.{ap}
use Rattle.std.specs.Prelude.{Ok}
use Rattle.acts.specs.Record.{with_p}
use Rattle.acts.proofs.Operands.{finishing}
use Rattle.effects.proofs.ways.at_address.Goals as goal

pub returns-in-Jump : goal.returns-in-Jump
returns-in-Jump c = let at = c.args.at in rw c.in-Jump.is (finishing _ _ _ (λ s. with_p s at) (ap Ok c.at.ensures))
