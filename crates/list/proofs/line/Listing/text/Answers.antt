-- `list::line::Listing::text` meets its contract. Assumes nothing.
use Rattle.std.proofs.Common.{arith}
use Rattle.list.proofs.Lines.{whole}
use Rattle.list.proofs.line.Listing.text.Goals as goal

pub returns : goal.returns
returns c = whole c.args.self.0 (omega arith) c.new.ensures.text c.with_str-headed.ensures c.with_line.ensures
