-- `list::text::with_decimal` meets its contract. Assumes nothing.
use Rattle.std.proofs.Common.{arith}
use Rattle.list.proofs.Texts.{joined, one_digit, more_digits}
use Rattle.list.proofs.text.+with_decimal.Goals as goal

pub returns-then-n-lt10 : goal.returns-then-n-lt10
returns-then-n-lt10 t c = rw (← one_digit c.args.n (omega arith)) c.with_digit.ensures

pub returns : goal.returns
returns t c = rw (← more_digits c.args.n (omega arith)) (joined c.with_decimal.ensures c.with_digit-2.ensures)
