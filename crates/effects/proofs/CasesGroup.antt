-- C3 to C6 of 01, and SEZ before CLE, on the rules of `Group` by computation: for any registers, with A or E as the case gives them.
-- Assumes nothing.
use mathlib.Core.Path.{◌≡◌, refl}
use mathlib.Core.Bool.{true, false}
use Rattle.word.specs.declared.shifts.ShiftCode.{ShiftCode}
use Rattle.acts.specs.Record.{with_a, with_e, ahead}
use Rattle.effects.specs.Group.{shift_rotated, alter_skips, alter_ended, alter_skipped}
use Rattle.acts.specs.declared.record.Registers.{Registers}
use Rattle.code.specs.declared.codes.Register.{Register}
use Rattle.code.specs.declared.instructions.Alter.{Alter}
use Rattle.code.specs.declared.instructions.AlterSkip.{AlterSkip}
use Rattle.code.specs.declared.instructions.ShiftRotate.{ShiftRotate}

-- 002031: SSA, SLA, RSS
abbrev pub pair : AlterSkip
pair = record { register = Register.A; alter = Alter.Keep; sez = false; extend = Alter.Keep; ssa = true; sla = true; ina = false; sza = false; rss = true }

pub c3 : (r : Registers) → alter_skipped pair (with_a r 0o100000) ≡ ahead 1 (with_a r 0o100000)
unfolding alter_skipped alter_ended alter_skips
c3 r = refl

pub c4 : (r : Registers) → alter_skipped pair (with_a r 0o100001) ≡ ahead 2 (with_a r 0o100001)
unfolding alter_skipped alter_ended alter_skips
c4 r = refl

-- 002001: RSS
abbrev pub always : AlterSkip
always = record { register = Register.A; alter = Alter.Keep; sez = false; extend = Alter.Keep; ssa = false; sla = false; ina = false; sza = false; rss = true }

pub c5 : (r : Registers) → alter_skipped always r ≡ ahead 2 r
unfolding alter_skipped alter_ended alter_skips
c5 r = refl

-- 000600: a disabled ELA
abbrev pub ela_disabled : ShiftRotate
ela_disabled = record { register = Register.A; enabled1 = false; shift1 = ShiftCode.Ela; cle = false; sla = false; enabled2 = false; shift2 = ShiftCode.Als }

pub c6 : (r : Registers) → shift_rotated ela_disabled (with_e (with_a r 0o100000) false) ≡ ahead 1 (with_e (with_a r 0o100000) true)
unfolding shift_rotated
c6 r = refl

-- 002140: SEZ, CLE with E set: SEZ sees E as given
abbrev pub sez_then_cle : AlterSkip
sez_then_cle = record { register = Register.A; alter = Alter.Keep; sez = true; extend = Alter.Clear; ssa = false; sla = false; ina = false; sza = false; rss = false }

pub sez_first : (r : Registers) → alter_skipped sez_then_cle (with_e r true) ≡ ahead 1 (with_e r false)
unfolding alter_skipped alter_ended alter_skips
sez_first r = refl
