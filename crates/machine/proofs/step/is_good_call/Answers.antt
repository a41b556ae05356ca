-- `step::is_good_call` meets its contract: each arm answers as the definition does there, by what its calls ensure. Assumes nothing.
use Rattle.machine.proofs.step.is_good_call.Goals as goal

pub returns : goal.returns
returns c = rw c.is_valid.ensures
