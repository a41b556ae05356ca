-- Shift/rotate and alter/skip by their parts, where a skip is a branch.
--     shifted_by            shift/rotate from its two shifts
--     with_ina, no_ina      alter/skip from the word and E after their alterations
-- Assumes nothing.
use Prim.Native.Nat.{ℕ, ◌+◌}
use mathlib.Core.Path.{◌≡◌}
use mathlib.Core.Bool.{Bool, true, false, not, ◌&&◌}
use Rattle.word.specs.Words.{bit, weight}
use Rattle.word.specs.Sums.{incremented}
use Rattle.word.specs.declared.shifts.Shifted.{Shifted}
use Rattle.code.specs.declared.codes.Register.{Register}
use Rattle.code.specs.declared.instructions.ShiftRotate.{ShiftRotate}
use Rattle.code.specs.declared.instructions.AlterSkip.{AlterSkip}
use Rattle.acts.specs.Record.{with_e, in_register, with_register, ahead}
use Rattle.acts.specs.declared.record.Registers.{Registers}
use Rattle.effects.specs.Ways.{flagged}
use Rattle.effects.specs.Group.{shift_place, shift_rotated, altered, extend_altered, alter_skips, alter_ended, alter_skipped}

pub shifted_by : (g : Register) (i : ShiftRotate) (r : Registers) {t u : Shifted} {n : ℕ} → i.register ≡ g
    → t ≡ shift_place i.enabled1 i.shift1 (in_register g r) r.e
    → u ≡ shift_place i.enabled2 i.shift2 t.word (not i.cle && t.e)
    → 1 + weight (i.sla && not (bit 0 t.word)) ≡ n
    → ahead n (with_e (with_register g r u.word) u.e) ≡ shift_rotated i r
unfolding shift_rotated
shifted_by g i r of e f k = rw (of, ← e, ← f, k)

module _ (g : Register) (i : AlterSkip) (r : Registers) {w u n : ℕ} {e : Bool} {s : Registers} (of : i.register ≡ g)
    (word : w ≡ altered i.alter (in_register g r)) (extend : e ≡ extend_altered i.extend r.e)
    (skip : 1 + weight (alter_skips i r.e w u) ≡ n) where
  pub with_ina : i.ina ≡ true → s ≡ flagged (incremented w) (with_e r e) → u ≡ (incremented w).word
      → ahead n (with_register g s u) ≡ alter_skipped i r
  unfolding alter_skipped alter_ended alter_skips
  with_ina h p q = rw (of, ← word, ← extend, h, ← p, ← q, skip)

  pub no_ina : i.ina ≡ false → s ≡ with_e r e → u ≡ w → ahead n (with_register g s u) ≡ alter_skipped i r
  unfolding alter_skipped alter_ended alter_skips
  no_ina h p q = rw (of, ← word, ← extend, h, ← p, q, rw q at skip)
