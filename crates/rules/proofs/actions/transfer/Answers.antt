-- `actions::transfer` meets its contract: each arm is the action that the definition has there. Assumes nothing.
use Rattle.rules.proofs.actions.transfer.Goals as goal

pub returns-in-Sax : goal.returns-in-Sax
returns-in-Sax c = rw c.in-Sax.is

pub returns-in-Cax : goal.returns-in-Cax
returns-in-Cax c = rw c.in-Cax.is

pub returns-in-Lax : goal.returns-in-Lax
returns-in-Lax c = rw c.in-Lax.is

pub returns-in-Cxa : goal.returns-in-Cxa
returns-in-Cxa c = rw c.in-Cxa.is

pub returns-in-Xax : goal.returns-in-Xax
returns-in-Xax c = rw c.in-Xax.is
