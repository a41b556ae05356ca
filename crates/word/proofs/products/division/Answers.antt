-- Dividend and divisor are read back from their bits (`z-read`, `k-read`); the remainder has a word, since the divisor has one
-- (`remainder_fits`). Assumes nothing.
use Rattle.std.proofs.Common.{◌≡◌, ltb-true, w16, w32, SFits, to_z, of_z}
use mir.ValLaws.{to_z-of_z}
use lib.Signed.{quot_z, rem_z}
use Rattle.word.specs.Signed.{within}
use Rattle.word.proofs.Signed.{read_wider, wider}
use Rattle.word.proofs.Quotients.{held, remainder_fits}
use Rattle.word.proofs.products.division.Goals as goal

pub returns : goal.returns
returns c =
    let z = c.args.z in
    let k = c.args.k in
    let z-read : to_z w32 (of_z w32 z) ≡ z = to_z-of_z w32 z c.ranges.z in
    let k-read : to_z w32 (of_z w32 c.from-divisor.result) ≡ k = rw c.from-divisor.ensures (read_wider k c.ranges.k) in
    let fits : SFits w32 (quot_z z k) = record { sfits = ltb-true _ _ c.requires.fits } in
    let q = held (within w16 (quot_z z k)) (rw (z-read, k-read, to_z-of_z w32 _ fits) at c.in_ok-quotient.ensures) in
    let r : SFits w16 (rem_z z k) = remainder_fits w16 z k c.ranges.k c.requires.divisor in
    rw (q.0, q.1, c.cast_unsigned.ensures, z-read, k-read, to_z-of_z w32 _ (wider _ r), to_z-of_z w16 _ r)
