-- `Element::compare` meets its contract: by what its calls ensure. Assumes nothing.
use Rattle.acts.proofs.Operands.{had_value}
use Rattle.strings.proofs.strings.Element.compare.Goals as goal

pub returns : goal.returns
returns c = record { goes = λ k. rw (had_value c.load.ensures c.in_ok-v.was _, had_value c.load-2.ensures c.in_ok-w.was _, c.order.ensures) }
