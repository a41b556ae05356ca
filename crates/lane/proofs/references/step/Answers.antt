-- `lane::references::step` meets its contract. Assumes nothing.
use Rattle.std.proofs.Common.{refl}
use Rattle.lane.proofs.Ways.{stepping}
use Rattle.lane.proofs.references.step.Goals as goal

pub returns : goal.returns
returns c =
    stepping _ _ _ c.args.at c.read.ensures c.in_ok-ok.ensures.value (λ k. rw c.increment-stepped.ensures at (c.in_ok-store.ensures c.args.r k refl)) (rw c.increment-stepped.ensures refl) refl
