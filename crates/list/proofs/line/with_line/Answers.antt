-- `list::line::with_line` meets its contract. Assumes nothing.
use Rattle.list.specs.Line.{line_of}
use Rattle.list.proofs.Texts.{joined}
use Rattle.list.proofs.line.with_line.Goals as goal

pub returns : goal.returns
unfolding line_of
returns c =
    let counted = joined c.with_str.ensures c.with_decimal-counted.ensures in
    let numbers = joined c.with_decimal-answered.ensures counted in
    let words = joined (joined (joined numbers c.with_word.ensures) c.with_word-2.ensures) c.with_word-words.ensures in
    let bits = joined (joined words c.with_bit.ensures) c.with_bit-bits.ensures in
    rw (← c.from.ensures) (joined bits c.with_str-2.ensures)
