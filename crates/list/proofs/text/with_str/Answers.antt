-- `list::text::with_str` meets its contract. Assumes nothing.
use Rattle.std.proofs.Common.{arith}
use Rattle.list.proofs.Texts.{uncut}
use Rattle.list.proofs.text.with_str.Goals as goal

pub returns : goal.returns
returns c = uncut c.args.t c.args.s.now c.and_str.result (c.and_str.ensures.to_end (omega arith))
