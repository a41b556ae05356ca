-- `ways::take` meets its contract: by what its calls ensure. Assumes nothing.
use Rattle.std.proofs.Common.{ap}
use Rattle.std.specs.Prelude.{Ok}
use Rattle.acts.specs.Acts.{fin}
use Rattle.effects.specs.Ways.{taken}
use Rattle.acts.proofs.Operands.{reads, had_on, had_stop, by_question, finishing}
use Rattle.effects.proofs.ways.take.Goals as goal

pub returns-in_err-w : goal.returns-in_err-w
returns-in_err-w c = had_stop (reads c.read.ensures) c.in_err-w.was (by_question _ _ c.from_residual.ensures.1) _

pub returns : goal.returns
returns c =
    let args = c.args in
    had_on (reads c.read.ensures) c.in_ok-w.was (λ w. fin (taken args.taking w args.words))
    (finishing _ _ _ (taken args.taking c.in_ok-w.w args.words) (ap Ok c.apply.ensures))
