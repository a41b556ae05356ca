-- `actions::words` meets its contract: each arm is the action that the definition has there. Assumes nothing.
use Rattle.rules.proofs.actions.words.Goals as goal

pub returns-in-Cmw : goal.returns-in-Cmw
returns-in-Cmw c = rw c.in-Cmw.is

pub returns-in-Mvw : goal.returns-in-Mvw
returns-in-Mvw c = rw c.in-Mvw.is
