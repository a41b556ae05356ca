-- `list::text::with_bytes` meets its contract. Assumes nothing.
use Rattle.std.proofs.Common.{rules}
use Rattle.std.proofs.lemmas.Str.{IsUtf8-from_ascii}
use Rattle.list.proofs.text.with_bytes.Goals as goal

pub returns : goal.returns
returns c ascii = let utf8 = IsUtf8-from_ascii c.args.l.now ascii in search rules
