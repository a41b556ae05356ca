-- Truth values: what a test that holds, and one that cannot, gives.
-- Assumes nothing.
use mathlib.Core.Path.{◌≡◌, refl, sym}
use mathlib.Core.Bool.{Bool, true, false, cond}
use Prim.Native.Nat.{ℕ}
use native.Mathlib.Omega.{arith}
use lib.Dec.{T}

pub never : {A : Type 0} → true ≡ false → A
never h = absurd (let z : ◌≡◌ {A = ℕ} 0 1 = cc in omega arith)

pub is_true : {b : Bool} → b ≡ true → T b
is_true h = rw h tt

pub both : (a b : Bool) → cond a b false ≡ true → (a ≡ true) × (b ≡ true)
both true b h = (refl, h)
both false b h = never (sym h)
