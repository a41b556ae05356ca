-- `perform::fetch` meets its contract: by what its calls ensure. Assumes nothing.
use borrow.Author.Tests.{eq-eqb, ne_eqb}
use Rattle.acts.proofs.Operands.{reads, had_on, had_stop, by_question}
use Rattle.steps.proofs.perform.fetch.Goals as goal

pub returns-in_err-word : goal.returns-in_err-word
returns-in_err-word c = rw (eq-eqb _ _ c.if-r-eq0.true) (had_stop (reads c.read.ensures) c.in_err-word.was (by_question _ _ c.from_residual.ensures.1) _)

pub returns-then-r-eq0 : goal.returns-then-r-eq0
returns-then-r-eq0 c = rw (eq-eqb _ _ c.if-r-eq0.true) (had_on (reads c.read.ensures) c.in_ok-word.was _ (rw c.action_of.ensures at c.perform.ensures))

pub returns-in_err-word-2 : goal.returns-in_err-word-2
returns-in_err-word-2 c = rw (ne_eqb _ _ c.if-r-eq0.false) (had_stop (reads c.read-2.ensures) c.in_err-word-2.was (by_question _ _ c.from_residual-in_err-word-2.ensures.1) _)

pub returns : goal.returns
returns c = rw (ne_eqb _ _ c.if-r-eq0.false) (had_on (reads c.read-2.ensures) c.in_ok-word-2.was _ c.carry_out_trap.ensures)
