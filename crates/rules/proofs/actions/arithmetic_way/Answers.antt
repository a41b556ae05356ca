-- `actions::arithmetic_way` meets its contract: each arm answers as the definition does there, by what its calls ensure. Assumes nothing.
use Rattle.rules.proofs.actions.arithmetic_way.Goals as goal

pub returns-in-Mpy : goal.returns-in-Mpy
returns-in-Mpy c = rw c.in-Mpy.is

pub returns-in-Div : goal.returns-in-Div
returns-in-Div c = rw c.in-Div.is
