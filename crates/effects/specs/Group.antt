-- Instructions that touch no memory, in 01's order. Each gives the registers that follow; I/O may also be refused or violate.
--     shift_place, shift_rotated                                   shift/rotate
--     altered, extend_altered, pair_met, alter_skips, alter_ended, alter_skipped      alter/skip
--     long_rotated                                                long shifts
--     copied_to_index, copied_from_index, exchanged, index_stepped    the index registers
--     picked, panel_act, is_halt, io_act                            I/O
--     PerformsAlone                                              what is promised of such a program
-- What is done to a word is in the crate `word`. Assumes nothing.
use Rattle.std.specs.Prelude.{ℕ, ◌+◌, ◌*◌, ◌%◌, Bool, true, false, cond, not, ◌&&◌, ◌||◌, List, eqb, Result}
use Rattle.word.specs.Words.{bit, weight, complemented}
use Rattle.word.specs.Sums.{incremented}
use Rattle.word.specs.Shifts.{shifted, unshifted}
use Rattle.word.specs.Long.{long_shifted}
use Rattle.word.specs.declared.sums.Sum.{Sum}
use Rattle.word.specs.declared.shifts.ShiftCode.{ShiftCode}
use Rattle.word.specs.declared.shifts.Shifted.{Shifted}
use Rattle.word.specs.declared.long.LongShift.{LongShift}
use Rattle.word.specs.declared.long.Long.{Long}
use Rattle.acts.specs.Record.{with_a, with_b, with_e, with_o, with_lights, in_register, with_register, in_index, with_index, ahead}
use Rattle.effects.specs.Ways.{flagged}
use Rattle.acts.specs.declared.record.Registers.{Registers}
use Rattle.code.specs.declared.codes.Register.{Register}
use Rattle.code.specs.declared.codes.Register.TheVariants.{A, B}
use Rattle.code.specs.declared.codes.Index.{Index}
use Rattle.code.specs.declared.instructions.ShiftRotate.{ShiftRotate}
use Rattle.code.specs.declared.instructions.AlterSkip.{AlterSkip}
use Rattle.code.specs.declared.instructions.InputOutput.{InputOutput}
use Rattle.code.specs.declared.instructions.IoOperation.{IoOperation}
use Rattle.code.specs.declared.instructions.IoOperation.TheVariants.{Hlt, Flag, Sfc, Sfs, Mia, Lia, Ota, Control}
use Rattle.acts.specs.declared.replies.Refusal.{Refusal}
use Rattle.acts.specs.declared.replies.Stop.{Stop}
use Rattle.acts.specs.Acts.{Act, fin, stop, violate, Performs}
use Rattle.maps.specs.Pages.{protecting}
use Rattle.code.specs.declared.instructions.Alter.{Alter}
use Rattle.code.specs.declared.instructions.Alter.TheVariants.{Keep, Clear, Complement, Ones}

-- 01, Shift/rotate: "First shift .., enabled by bit 9; CLE bit 5; SLA or SLB bit 3; second shift .., enabled by bit 4, in that order."
abbrev pub shift_place : Bool → ShiftCode → ℕ → Bool → Shifted
shift_place enabled code w e = cond enabled (shifted code w e) (unshifted code w e)

unfoldable pub shift_rotated : ShiftRotate → Registers → Registers
shift_rotated i r =
    let t : Shifted = shift_place i.enabled1 i.shift1 (in_register i.register r) r.e in
    let u : Shifted = shift_place i.enabled2 i.shift2 t.word (not i.cle && t.e) in
    ahead (1 + weight (i.sla && not (bit 0 t.word))) (with_e (with_register i.register r u.word) u.e)

-- 01, Alter/skip: "bits 9 and 8 (CLA 01, CMA 10, CCA 11)", "bits 7 and 6 (CLE 01, CME 10, CCE 11)"
abbrev pub altered : Alter → ℕ → ℕ
altered Keep w = w
altered Clear w = 0
altered Complement w = complemented w
altered Ones w = 0o177777

abbrev pub extend_altered : Alter → Bool → Bool
extend_altered Keep e = e
extend_altered Clear e = false
extend_altered Complement e = not e
extend_altered Ones e = true

-- "RSS with both SSA and SLA needs bits 15 and 0 both set for that pair": the pair with RSS, of bit 15 and bit 0
abbrev pub pair_met : Bool → Bool → Bool → Bool → Bool
pair_met ssa sla minus odd = cond (ssa && sla) (minus && odd) (ssa && minus || sla && odd)

-- "One met condition skips. RSS reverses each condition; RSS with no skip skips always". e is E as given, w the word after its
-- alteration, u the word after INA.
unfoldable pub alter_skips : AlterSkip → Bool → ℕ → ℕ → Bool
alter_skips i e w u =
    cond i.rss
    (i.sez && e || pair_met i.ssa i.sla (bit 15 w) (bit 0 w) || i.sza && not (eqb u 0)
    || not (i.sez || i.ssa || i.sla || i.sza))
    (i.sez && not e || i.ssa && not (bit 15 w) || i.sla && not (bit 0 w) || i.sza && eqb u 0)

-- The order: the register, SEZ, E, SSA, SLA, INA, SZA, RSS. INA sets E and O as a sum does (C1, C2). w and e are the word and E
-- after their alterations; SEZ looks at E as given.
unfoldable pub alter_ended : AlterSkip → ℕ → Bool → Registers → Registers
alter_ended i w e r =
    let s : Registers = with_e r e in
    let t : Sum = incremented w in
    let u : ℕ = cond i.ina t.word w in
    ahead (1 + weight (alter_skips i r.e w u)) (with_register i.register (cond i.ina (flagged t s) s) u)

unfoldable pub alter_skipped : AlterSkip → Registers → Registers
alter_skipped i r = alter_ended i (altered i.alter (in_register i.register r)) (extend_altered i.extend r.e) r

-- 01, Long shifts; E is never touched
unfoldable pub long_rotated : LongShift → ℕ → Registers → Registers
long_rotated kind n r =
    let t : Long = long_shifted kind n r.b r.a r.o in
    ahead 1 (with_o (with_b (with_a r t.a) t.b) t.o)

-- 01, Index: CAX, CXA, XAX and their kin; "ISX to DSY skip if the register is now 0"
abbrev pub copied_to_index : Register → Index → Registers → Registers
copied_to_index g i r = ahead 1 (with_index i r (in_register g r))

abbrev pub copied_from_index : Register → Index → Registers → Registers
copied_from_index g i r = ahead 1 (with_register g r (in_index i r))

abbrev pub exchanged : Register → Index → Registers → Registers
exchanged g i r = ahead 1 (with_index i (with_register g r (in_index i r)) (in_register g r))

abbrev pub index_stepped : Index → ℕ → Registers → Registers
index_stepped i w r = ahead (1 + weight (eqb w 0)) (with_index i r w)

-- 01, I/O: "otherwise bit 11 picks B"
abbrev pub picked : Bool → Register
picked bit11 = cond bit11 B A

-- 01: "Select code 01: STF sets O, CLF clears it, SFC and SFS test it, and bit 9 with SFC or SFS clears O afterwards. LIA 01
-- gives switches times 256, OTA 01 puts the low byte in the lights, both with bit 9 clear. The remaining I/O codes reply 2."
unfoldable pub panel_act : InputOutput → Act
panel_act io =
    elim io.operation [
      | Hlt ↦ stop Refusal.InputOutput
      | Flag ↦ fin (λ s. ahead 1 (with_o s (not io.bit9)))
      | Sfc ↦ fin (λ s. ahead (1 + weight (not s.o)) (with_o s (s.o && not io.bit9)))
      | Sfs ↦ fin (λ s. ahead (1 + weight s.o) (with_o s (s.o && not io.bit9)))
      | Mia ↦ stop Refusal.InputOutput
      | Lia ↦ cond io.bit9 (stop Refusal.InputOutput) (fin (λ s. ahead 1 (with_register (picked io.bit11) s (s.switches * 256))))
      | Ota ↦ cond io.bit9 (stop Refusal.InputOutput) (fin (λ s. ahead 1 (with_lights s (in_register (picked io.bit11) s % 256))))
      | Control ↦ stop Refusal.InputOutput
    ]

abbrev pub is_halt : IoOperation → Bool
is_halt Hlt = true
is_halt Flag = false
is_halt Sfc = false
is_halt Sfs = false
is_halt Mia = false
is_halt Lia = false
is_halt Ota = false
is_halt Control = false

-- 01, Violation: with protection on "any I/O code except select code 01, any HLT"
unfoldable pub io_act : InputOutput → Registers → Act
io_act io r =
    cond (protecting r.wmap && (is_halt io.operation || not (eqb io.select 1))) violate
    (cond (eqb io.select 1) (panel_act io) (stop Refusal.InputOutput))

-- what a function that carries out a program of no accesses promises: the same whatever page registers and memory hold
abbrev pub PerformsAlone : Act → Registers → Result Registers Stop → Type 0
PerformsAlone act r s = (pages m : List ℕ) → Performs pages act r m s m
