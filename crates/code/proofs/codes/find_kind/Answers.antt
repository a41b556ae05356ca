-- `codes::find_kind` meets its contract. Assumes nothing.
use Rattle.std.proofs.Common.{rules, tests, ◌∙◌, sym}
use Rattle.std.proofs.lemmas.Iterator.{YieldsList-from_slice}
use Rattle.std.proofs.lemmas.Iterator.Consumers.{YieldsList-at, YieldsList-from_copied}
use Rattle.std.proofs.lemmas.Iterator.Search.{find_from_yields_List}
use Rattle.std.proofs.lemmas.Iterator.Adapters.{option_map_id}
use Rattle.code.specs.Kinds.{same}
use Rattle.code.specs.Codes.{rows, find_kind}
use Rattle.code.proofs.Table.{same_is}
use Rattle.code.proofs.codes.find_kind.Goals as goal

pub returns : goal.returns
unfolding find_kind rows
returns c =
    sym (option_map_id c.find.result)
    ∙ find_from_yields_List (λ e. same e.kind c.args.kind) _ _ c.find.result c.find.ensures.ran
    (YieldsList-from_copied (YieldsList-at c.copied.ensures.source (YieldsList-from_slice rows c.iter.ensures.rest)))
    (λ x b q k. (search (rules, tests), same_is x.kind c.args.kind b (search (rules, tests))))
