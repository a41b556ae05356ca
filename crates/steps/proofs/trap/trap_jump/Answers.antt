-- `trap::trap_jump` meets its contract: by what its calls ensure. Assumes nothing.
use Rattle.std.proofs.Common.{ap}
use Rattle.std.specs.Prelude.{Ok}
use Rattle.acts.specs.Acts.{fin}
use Rattle.acts.specs.Record.{with_p, with_trap}
use Rattle.acts.proofs.Operands.{chases, had_on, had_stop, by_question, finishing}
use Rattle.steps.proofs.trap.trap_jump.Goals as goal

pub returns-in_err-at : goal.returns-in_err-at
returns-in_err-at c = had_stop (chases c.follow.ensures) c.in_err-at.was (by_question _ _ c.from_residual.ensures.1) _

pub returns : goal.returns
returns c =
    let at = c.in_ok-at.at in
    had_on (chases c.follow.ensures) c.in_ok-at.was (λ m. fin (λ s. with_trap (with_p s m) 0))
    (finishing _ _ _ (λ s. with_trap (with_p s at) 0) (ap Ok c.leave_trap.ensures))
