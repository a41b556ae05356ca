-- `ways::step_and_skip` meets its contract: by what its calls ensure. Assumes nothing.
use Rattle.acts.proofs.Operands.{reads, had_on, had_stop, by_question}
use Rattle.effects.proofs.ways.step_and_skip.Goals as goal

pub returns-in_err-read : goal.returns-in_err-read
returns-in_err-read c = had_stop (reads c.read.ensures) c.in_err-read.was (by_question _ _ c.from_residual.ensures.1) _

pub returns : goal.returns
returns c = had_on (reads c.read.ensures) c.in_ok-read.was _ (rw (c.skipping-to.ensures, c.increment-stepped.ensures) at c.put.ensures)
