-- Numbers from their parts, and from what they are not.
--     split         the digits of a number from k on, by one digit of base n
--     digit, low    a digit of a number that is put together from its digits
--     last_arm      in the last arm of a `match` on a number, the number is past the keys of the arms before
--     under         a test that antt computes below a bound holds at each number below it
-- Assumes nothing.
use mathlib.Core.Path.{◌≡◌, refl, sym}
use mathlib.Core.Bool.{Bool, true, false}
use Prim.Native.Nat.{ℕ, zero-le, zero, suc, ◌+◌, ◌*◌, ◌/◌, ◌%◌, ◌≤◌, ◌<◌}
use native.Mathlib.Omega.{arith}
use native.Mathlib.Nat.{add_comm, zero-add, add-mul-mod_self_right, mod-eq_of_lt, add-mul-div_right, div-eq_of_lt, lt_of_le_of_lt}
use native.Mathlib.Nat.{div-add-mod', div-div-eq-div-mul, add-zero, add-suc, eq-or-lt_of_le, le_of_suc-le-suc, not-suc-le-zero}
use mathlib.Core.Logic.{⊎_elim}
use lib.Dec.{T}

pub split : (k n w : ℕ) → w / (k * n) * n + w / k % n ≡ w / k
split k n w = rw (← div-div-eq-div-mul w k n) (div-add-mod' (w / k) n)

pub low : (n h d w : ℕ) → h * n + d ≡ w → d < n → w % n ≡ d
low n h d w e l = rw (← e, add_comm (h * n) d, add-mul-mod_self_right d h n) (mod-eq_of_lt l)

pub digit : (k n h d r w : ℕ) → (h * n + d) * k + r ≡ w → d < n → r < k → w / k % n ≡ d
digit k n h d r w e l m =
    let q : w / k ≡ h * n + d =
    rw (← e, add_comm ((h * n + d) * k) r, add-mul-div_right r (h * n + d) {z = k} (lt_of_le_of_lt zero-le m), div-eq_of_lt m) (zero-add (h * n + d))
    in
    low n h d (w / k) (sym q) l

-- n is none of k numbers from m on
abbrev pub Passed : ℕ → ℕ → ℕ → Type 0
Passed n m zero = Unit {0}
Passed n m (suc k) = Passed n m k × (n ≡ m + k → ⊥)

pub last_arm : (n m k : ℕ) → m ≤ n → Passed n m k → m + k ≤ n
last_arm n m zero h p = rw add-zero h
last_arm n m (suc k) h p = let b = last_arm n m k h p.0 in let ne = p.1 in rw add-suc (omega arith)

abbrev pub below : (ℕ → Bool) → ℕ → Bool
below f zero = true
below f (suc k) = elim (f k) [ true ↦ below f k | false ↦ false ]

pub under : (f : ℕ → Bool) (k : ℕ) → T (below f k) → (n : ℕ) → n < k → f n ≡ true
under f zero t n h = absurd (not-suc-le-zero h)
under f (suc k) t n h = go (f k) refl (under f k)
  where
    go : (b : Bool) → f k ≡ b → (T (below f k) → (i : ℕ) → i < k → f i ≡ true) → f n ≡ true
    go true e next =
        ⊎_elim (λ (q : n ≡ k). rw q e) (λ (l : n < k). next (rw (e, below) at t) n l) (eq-or-lt_of_le (le_of_suc-le-suc h))
    go false e next = absurd (rw (e, below) at t)
