-- `strings::compare_strings` meets its contract: what ends the step at a pair ends it. Assumes nothing.
use Rattle.std.proofs.Common.{ap, ◌∙◌, arith}
use Rattle.std.specs.Prelude.{Err}
use Rattle.std.proofs.lemmas.Result.{err_from_is_err_and}
use Rattle.acts.proofs.Operands.{stopping}
use Rattle.strings.specs.Strings.{along}
use Rattle.strings.proofs.Comparisons.{stopped}
use Rattle.strings.proofs.strings.compare_strings.Goals as goal

pub returns-in_err-order : goal.returns-in_err-order
returns-in_err-order c =
    let p = err_from_is_err_and c.from_residual.result c.from_residual.ensures.1 in
    let u = c.args.u in
    rw (← c.loop-left.invariant, stopped _ u (along u c.args.r.b c.args.count) _ _ c.loop-left.left _ _ (omega arith) c.compare.ensures c.in_err-order.was)
    (stopping c.in_err-order.field-0.0 (p.1 ∙ ap Err p.2))
