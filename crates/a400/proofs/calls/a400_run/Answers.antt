-- `a400::calls::a400_run` meets its contract: a run, with a count that is one number. Assumes nothing.
use Rattle.a400.proofs.Answering.{counted, uncounted}
use Rattle.a400.proofs.calls.a400_run.Goals as goal

pub returns-then-count-ne1 : goal.returns-then-count-ne1
returns-then-count-ne1 c = uncounted c.args.words.now c.args.pages.now c.args.memory.now c.args.budget c.args.count.now c.if-count-ne1.true

pub returns : goal.returns
returns c = counted c.args.words.now c.args.pages.now c.args.memory.now c.args.budget c.args.count.now c.if-count-ne1.false c.call-made.ensures
