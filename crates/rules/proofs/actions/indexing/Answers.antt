-- `actions::indexing` meets its contract: each arm is the action that the definition has there. Assumes nothing.
use Rattle.rules.proofs.actions.indexing.Goals as goal

pub returns-in-Stx : goal.returns-in-Stx
returns-in-Stx c = rw c.in-Stx.is

pub returns-in-Ldx : goal.returns-in-Ldx
returns-in-Ldx c = rw c.in-Ldx.is

pub returns-in-Adx : goal.returns-in-Adx
returns-in-Adx c = rw c.in-Adx.is

pub returns-in-Isx : goal.returns-in-Isx
returns-in-Isx c = rw c.in-Isx.is

pub returns-in-Dsx : goal.returns-in-Dsx
returns-in-Dsx c = rw c.in-Dsx.is
