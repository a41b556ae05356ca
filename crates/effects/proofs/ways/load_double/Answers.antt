-- `ways::load_double` meets its contract: by what its calls ensure. Assumes nothing.
use Rattle.std.proofs.Common.{ap}
use Rattle.std.specs.Prelude.{Ok}
use Rattle.acts.specs.Acts.{fin}
use Rattle.acts.specs.Record.{with_a, with_b, ahead}
use Rattle.acts.proofs.Operands.{reads, had_on, had_stop, by_question, finishing}
use Rattle.effects.proofs.ways.load_double.Goals as goal

pub returns-in_err-a : goal.returns-in_err-a
returns-in_err-a c = had_stop (reads c.read.ensures) c.in_err-a.was (by_question _ _ c.from_residual.ensures.1) _

pub returns-in_err-b : goal.returns-in_err-b
returns-in_err-b c =
    had_on (reads c.read.ensures) c.in_ok-a.was _
    (had_stop (reads (rw c.past.ensures at c.read-2.ensures)) c.in_err-b.was (by_question _ _ c.from_residual-in_err-b.ensures.1) _)

pub returns : goal.returns
returns c =
    let words = c.args.words in
    let a = c.in_ok-a.a in
    had_on (reads c.read.ensures) c.in_ok-a.was _
    (had_on (reads (rw c.past.ensures at c.read-2.ensures)) c.in_ok-b.was (λ w. fin (λ t. ahead words (with_b (with_a t a) w)))
    (finishing _ _ _ (λ t. ahead words (with_b (with_a t a) c.in_ok-b.b)) (ap Ok c.ahead.ensures)))
