-- `word::long::shifted` meets its contract: what `|` puts together is a sum (`Halves`). Assumes nothing.
use Rattle.std.proofs.Common.{◌≡◌, ◌-◌, ◌*◌, ◌%◌, ◌^◌, arith}
use Rattle.word.specs.Long.{moved}
use Rattle.word.proofs.Halves.{rotated_left, rotated_right, below_sign}
use Rattle.word.proofs.long.shifted.Goals as goal

pub returns-in-Asl : goal.returns-in-Asl
unfolding moved
returns-in-Asl c = rw (c.in-Asl.is, below_sign 31 c.args.d (c.args.d * 2 ^ c.args.places.count % 4294967296) (omega arith)) (omega arith)

pub returns-in-Rrl : goal.returns-in-Rrl
unfolding moved
returns-in-Rrl c =
    let n : c.args.places.count % 32 ≡ c.args.places.count = omega arith in
    let m : (32 - c.args.places.count) % 32 ≡ 32 - c.args.places.count = omega arith in
    rw (c.in-Rrl.is, c.rotate_left.ensures, n, m) (rotated_left 32 (32 - c.args.places.count) c.args.places.count c.args.d (omega arith) c.ranges.d.fits)

pub returns-in-Rrr : goal.returns-in-Rrr
unfolding moved
returns-in-Rrr c =
    let n : c.args.places.count % 32 ≡ c.args.places.count = omega arith in
    let m : (32 - c.args.places.count) % 32 ≡ 32 - c.args.places.count = omega arith in
    rw (c.in-Rrr.is, c.rotate_right.ensures, n, m) (rotated_right 32 c.args.places.count (32 - c.args.places.count) c.args.d (omega arith) c.ranges.d.fits)
