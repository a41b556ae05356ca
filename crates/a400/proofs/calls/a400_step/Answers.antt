-- `a400::calls::a400_step` meets its contract: a step is a run of one. Assumes nothing.
use Rattle.a400.proofs.Answering.{step_as_run}
use Rattle.a400.proofs.calls.a400_step.Goals as goal

pub returns : goal.returns
returns c = rw (step_as_run c.args.words.now c.args.pages.now c.args.memory.now) c.call-made.ensures.calls
