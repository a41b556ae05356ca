-- `list::image::image_words` meets its contract. Assumes nothing.
use Rattle.std.proofs.Common.{arith}
use Rattle.std.proofs.lemmas.List.FromFn.{fill_by_all}
use Rattle.list.specs.Image.{tabulated, image_word}
use Rattle.list.proofs.image.image_words.Goals as goal

pub returns : goal.returns
unfolding tabulated
returns c =
    fill_by_all (image_word c.args.bytes.now) c.loop-i.word-items 8192 0 (omega arith) (λ k h. c.loop-i.invariant k (omega arith))
