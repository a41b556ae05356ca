-- `trap::trap_jump_saving` meets its contract: by what its calls ensure. Assumes nothing.
use Rattle.std.proofs.Common.{refl}
use Rattle.acts.specs.Record.{with_p, with_trap}
use Rattle.acts.proofs.Operands.{chases, had_on, had_stop, by_question, ends_last}
use Rattle.steps.proofs.trap.trap_jump_saving.Goals as goal

pub returns-in_err-at : goal.returns-in_err-at
returns-in_err-at c = had_stop (chases c.follow.ensures) c.in_err-at.was (by_question _ _ c.from_residual.ensures.1) _

pub returns : goal.returns
returns c =
    had_on (chases c.follow.ensures) c.in_ok-at.was _
    (ends_last _ _ _ _ (λ s. with_trap (with_p s _) 0) _ _ refl refl refl (rw (c.leave_trap-s.ensures, c.past.ensures)) c.put_last.ensures)
