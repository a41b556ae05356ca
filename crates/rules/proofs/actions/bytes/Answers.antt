-- `actions::bytes` meets its contract: each arm is the action that the definition has there. Assumes nothing.
use Rattle.rules.proofs.actions.bytes.Goals as goal

pub returns-in-Mbt : goal.returns-in-Mbt
returns-in-Mbt c = rw c.in-Mbt.is

pub returns-in-Cbt : goal.returns-in-Cbt
returns-in-Cbt c = rw c.in-Cbt.is
