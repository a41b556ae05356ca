-- `Span::test_pages` meets its contract: the last word of a stretch tells the stretch. Assumes nothing.
use Rattle.std.proofs.Common.{sym, ◌∙◌}
use Rattle.std.proofs.lemmas.Result.{err_from_is_err_and}
use Rattle.strings.proofs.Stretches.{along_fits, first_past}
use Rattle.strings.proofs.moves.Span.test_pages.Goals as goal

pub returns-in_err-test : goal.returns-in_err-test
returns-in_err-test g c = λ T is told.
    let p = err_from_is_err_and c.from_residual.result c.from_residual.ensures.1 in
    rw (p.1, p.2)
    (sym (first_past T told _ _ _ _ c.loop-left.invariant.0 c.loop-left-test.true c.stretch-stretch.ensures c.along-last.ensures c.word_at.ensures (is _ _ c.word_at.type_inv c.test.ensures) c.in_err-test.was)
    ∙ c.loop-left.invariant.1 T is told)

pub loop-left-preserved : goal.loop-left-preserved
loop-left-preserved g c = (
  rw c.along-next.ensures (along_fits c.args.self.element c.loop-left.next c.stretch-stretch.result),
  λ T is told.
      rw c.along-next.ensures
      (sym (first_past T told _ _ _ _ c.loop-left.invariant.0 c.loop-left-test.true c.stretch-stretch.ensures c.along-last.ensures c.word_at.ensures (is _ _ c.word_at.type_inv c.test.ensures) c.in_ok-test.was)
      ∙ c.loop-left.invariant.1 T is told),
)
