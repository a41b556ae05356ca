-- `actions::cross_way` meets its contract: each arm answers as the definition does there, by what its calls ensure. Assumes nothing.
use Rattle.rules.proofs.actions.cross_way.Goals as goal

pub returns-in-Xl : goal.returns-in-Xl
returns-in-Xl c = rw (c.in-Xl.is, c.data_map.ensures)

pub returns-in-Xs : goal.returns-in-Xs
returns-in-Xs c = rw (c.in-Xs.is, c.data_map-in-Xs.ensures)

pub returns-in-Xc : goal.returns-in-Xc
returns-in-Xc c = rw (c.in-Xc.is, c.data_map-in-Xc.ensures)
