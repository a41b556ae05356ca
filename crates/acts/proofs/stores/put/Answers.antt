-- `stores::put` meets its contract: by what its calls ensure. Assumes nothing.
use Rattle.std.proofs.Common.{refl}
use Rattle.acts.specs.Record.{with_p}
use Rattle.acts.proofs.Operands.{ends_last}
use Rattle.acts.proofs.stores.put.Goals as goal

pub returns : goal.returns
returns c = ends_last _ _ _ _ (λ s. with_p s _) _ _ refl refl refl c.at.ensures c.put_last.ensures
