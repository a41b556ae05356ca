-- `word::shifts::turn` meets its contract, code by code: what `|` puts together is a sum (`Halves`). Assumes nothing.
use Rattle.std.proofs.Common.{◌*◌, ◌%◌, arith}
use Rattle.word.proofs.Weights.{weight_lt}
use Rattle.word.proofs.Halves.{shifted_in, rotated_left, rotated_right, below_sign}
use Rattle.word.proofs.shifts.turn.Goals as goal

pub returns-in-Als : goal.returns-in-Als
returns-in-Als c = rw (c.in-Als.is, below_sign 15 c.args.word (c.args.word * 2 % 65536) (omega arith)) (omega arith)

pub returns-in-Ral : goal.returns-in-Ral
returns-in-Ral c = rw (c.in-Ral.is, c.rotate_left.ensures) (rotated_left 16 15 1 c.args.word (omega arith) c.ranges.word.fits)

pub returns-in-Rar : goal.returns-in-Rar
returns-in-Rar c = rw (c.in-Rar.is, c.rotate_right.ensures) (omega (arith, rotated_right 16 1 15 c.args.word (omega arith) c.ranges.word.fits))

pub returns-in-Ela : goal.returns-in-Ela
returns-in-Ela c = rw (c.in-Ela.is, c.weight_of-in-Ela.ensures) (shifted_in 16 15 1 c.args.word _ (omega arith) (weight_lt c.args.e))

pub returns-in-Alf : goal.returns-in-Alf
returns-in-Alf c = rw (c.in-Alf.is, c.rotate_left-in-Alf.ensures) (rotated_left 16 12 4 c.args.word (omega arith) c.ranges.word.fits)
