-- Parts of a number that `|` puts together, as sums.
--     shifted_in                    bits that come in where a shift to the left has left room
--     rotated_left, rotated_right   the low bits up and the high ones down
--     below_sign                    the highest bit of one number over the bits below it of another
-- Assumes nothing.
use Rattle.std.proofs.Common.{◌≡◌, ℕ, ◌+◌, ◌-◌, ◌*◌, ◌/◌, ◌%◌, ◌^◌, ◌<◌, bit_and, bit_or, arith, pow_pos, ◌∙◌}
use Rattle.std.proofs.lemmas.Nat.{mod-pow-add, shl-shr, or_shifted, or_comm, and_mask, shr_below, mod_below}
use Rattle.std.proofs.lemmas.Nat.Bits.{and_pow}
use Rattle.std.proofs.Math.Nat.{mul-mod_left}

pub shifted_in : (b j k d x : ℕ) → b ≡ j + k → x < 2 ^ k → bit_or (d * 2 ^ k % 2 ^ b) x ≡ d % 2 ^ j * 2 ^ k + x
shifted_in b j k d x e h =
    let kept : d * 2 ^ k % 2 ^ (j + k) ≡ d % 2 ^ j * 2 ^ k = rw (mod-pow-add (d * 2 ^ k) j k, shl-shr d k, mul-mod_left d (2 ^ k)) (omega arith) in
    rw (e, kept) (or_shifted (d % 2 ^ j) k x h)

pub rotated_left : (b j k d : ℕ) → b ≡ k + j → d < 2 ^ b → bit_or (d * 2 ^ k % 2 ^ b) (d / 2 ^ j) ≡ d % 2 ^ j * 2 ^ k + d / 2 ^ j
rotated_left b j k d e h = shifted_in b j k d (d / 2 ^ j) (omega arith) (shr_below d k j (rw e at h))

pub rotated_right : (b j k d : ℕ) → b ≡ k + j → d < 2 ^ b → bit_or (d / 2 ^ j) (d * 2 ^ k % 2 ^ b) ≡ d % 2 ^ j * 2 ^ k + d / 2 ^ j
rotated_right b j k d e h = or_comm (d / 2 ^ j) (d * 2 ^ k % 2 ^ b) ∙ rotated_left b j k d e h

pub below_sign : (k d x : ℕ) → d / 2 ^ k < 2 → bit_or (bit_and d (2 ^ k)) (bit_and x (2 ^ k - 1)) ≡ d / 2 ^ k * 2 ^ k + x % 2 ^ k
below_sign k d x h =
    let sign : d / 2 ^ k % 2 ≡ d / 2 ^ k = omega arith in
    rw (and_pow d k, and_mask x k, sign) (or_shifted (d / 2 ^ k) k (x % 2 ^ k) (mod_below x (2 ^ k) (pow_pos k)))
