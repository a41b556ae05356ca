-- 01, Shift/rotate: "Shift codes 0 to 7: ALS, ARS, RAL, RAR, ALR, ERA, ELA, ALF (for B likewise). A disabled ERA or ELA
-- still gives E the bit it would rotate out." Which place is enabled, and the order, are the step's. Assumes nothing.
use Rattle.std.specs.Prelude.{ℕ, ◌+◌, ◌*◌, ◌/◌, ◌%◌, Bool}
use Rattle.word.specs.Words.{bit, weight}
use Rattle.word.specs.declared.shifts.Shifted.{Shifted}
use Rattle.word.specs.declared.shifts.ShiftCode.{ShiftCode}
use Rattle.word.specs.declared.shifts.ShiftCode.TheVariants.{Als, Ars, Ral, Rar, Alr, Era, Ela, Alf}

-- The manual, Shift/Rotate: ALS and ARS keep bit 15, and ARS copies it to bit 14; ALR shifts left and clears bit 15. RAL and
-- RAR rotate by one place and ALF by four; ERA and ELA rotate the word and E.
abbrev pub turned : ShiftCode → ℕ → Bool → ℕ
turned Als w e = w / 0o100000 * 0o100000 + w % 0o40000 * 2
turned Ars w e = w / 0o100000 * 0o100000 + w / 2
turned Ral w e = w % 0o100000 * 2 + w / 0o100000
turned Rar w e = w / 2 + w % 2 * 0o100000
turned Alr w e = w % 0o40000 * 2
turned Era w e = w / 2 + weight e * 0o100000
turned Ela w e = w % 0o100000 * 2 + weight e
turned Alf w e = w % 0o10000 * 16 + w / 0o10000

-- E after the code, enabled or not: ERA gives it bit 0 and ELA bit 15
abbrev pub extended : ShiftCode → ℕ → Bool → Bool
extended Als w e = e
extended Ars w e = e
extended Ral w e = e
extended Rar w e = e
extended Alr w e = e
extended Era w e = bit 0 w
extended Ela w e = bit 15 w
extended Alf w e = e

-- enabled
abbrev pub shifted : ShiftCode → ℕ → Bool → Shifted
shifted code w e = record { word = turned code w e; e = extended code w e }

-- disabled
abbrev pub unshifted : ShiftCode → ℕ → Bool → Shifted
unshifted code w e = record { word = w; e = extended code w e }
