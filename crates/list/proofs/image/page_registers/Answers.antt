-- `list::image::page_registers` meets its contract. Assumes nothing.
use Rattle.std.proofs.Common.{rules}
use Rattle.std.proofs.lemmas.List.FromFn.{fill_by_all}
use Rattle.list.specs.Image.{tabulated, page_name}
use Rattle.list.proofs.image.page_registers.Goals as goal

pub returns : goal.returns
unfolding tabulated
returns c =
    let items = c.from_fn.ensures.items in
    fill_by_all page_name c.from_fn.result 1024 0 items.long (λ k h. let (p, q, called) = items.at k 0 h in search rules)
