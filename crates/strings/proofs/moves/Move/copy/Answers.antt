-- `Move::copy` meets its contract: a stretch more of the move. Assumes nothing.
use Rattle.strings.proofs.Copying.{moves_source, moves_target, moves_inside, moves_stretch}
use Rattle.strings.proofs.moves.Move.copy.Goals as goal

pub place-i-requires : goal.place-i-requires
place-i-requires c = moves_source _ _ c.loop-left-test.true c.loop-left.invariant

pub place-j-requires : goal.place-j-requires
place-j-requires c = moves_target _ _ c.loop-left-test.true c.loop-left.invariant c.purpose.ensures

pub copy_stretch-requires : goal.copy_stretch-requires
copy_stretch-requires c = moves_inside _ _ c.loop-left-test.true c.loop-left.invariant _ _ c.stretch.ensures c.stretch-stretch.ensures c.place-i.ensures c.place-j.ensures

pub loop-left-preserved : goal.loop-left-preserved
loop-left-preserved c =
    moves_stretch _ _ c.loop-left-test.true c.loop-left.invariant _ _ c.stretch.ensures c.stretch-stretch.ensures c.place-i.ensures c.place-j.ensures
    c.copy_stretch.ensures c.along-source.ensures c.along-target.ensures
