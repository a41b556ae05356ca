-- `list::line::ListingDisplay::fmt` meets its contract. Assumes nothing.
use Rattle.list.proofs.line.ListingDisplay.fmt.Goals as goal

pub returns-clause-writes : goal.returns-clause-writes
returns-clause-writes g c plain ok = rw (← c.text.ensures, ← c.as_str.ensures.value) (c.write_str.ensures.writes plain ok)
