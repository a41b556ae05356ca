-- What a word reads as, and which word an instruction is written as, 01 "Instructions built":
--     reading       every word's instruction: memory reference, shift/rotate, alter/skip, I/O, extended, not built
--     writing       the word that reads as an instruction, or none, which is reply 9
-- The table of the extended codes is in Codes. What an instruction does is elsewhere.
-- That the two are inverse is in proofs/Exact.antt.
-- Assumes nothing.
use Rattle.std.specs.Prelude.{ℕ, ◌+◌, ◌-◌, ◌*◌, ◌/◌, ◌%◌, Bool, true, false, cond, List, [], ◌∷◌, Option, Some, None, eqb, ltb, leb, get_or}
use Rattle.word.specs.Words.{bit, weight}
use Rattle.word.specs.declared.long.LongShift.{LongShift}
use Rattle.word.specs.declared.shifts.ShiftCode.{ShiftCode}
use Rattle.word.specs.declared.shifts.ShiftCode.TheVariants.{Als, Ars, Ral, Rar, Alr, Era, Ela, Alf}
use Rattle.code.specs.declared.codes.Register.{Register}
use Rattle.code.specs.declared.codes.Register.TheVariants.{A, B}
use Rattle.code.specs.declared.codes.Extended as of_extended
use Rattle.code.specs.declared.codes.Kind.{Kind}
use Rattle.code.specs.declared.codes.Kind.TheVariants.{Exact, Long}
use Rattle.code.specs.declared.instructions.Operation.{Operation}
use Rattle.code.specs.declared.instructions.Operation.TheVariants.{And, Jsb, Xor, Jmp, Ior, Isz, Ada, Adb, Cpa, Cpb, Lda, Ldb, Sta, Stb}
use Rattle.code.specs.declared.instructions.MemoryReference as of_memory_reference
use Rattle.code.specs.declared.instructions.ShiftRotate as of_shift_rotate
use Rattle.code.specs.declared.instructions.Alter.{Alter}
use Rattle.code.specs.declared.instructions.Alter.TheVariants.{Keep, Clear, Complement, Ones}
use Rattle.code.specs.declared.instructions.AlterSkip as of_alter_skip
use Rattle.code.specs.declared.instructions.IoOperation.{IoOperation}
use Rattle.code.specs.declared.instructions.IoOperation.TheVariants.{Hlt, Flag, Sfc, Sfs, Mia, Lia, Ota, Control}
use Rattle.code.specs.declared.instructions.InputOutput as of_input_output
use Rattle.code.specs.declared.instructions.Instruction.{Instruction}
use Rattle.code.specs.declared.instructions.Instruction.TheVariants.{MemoryReference, ShiftRotate, AlterSkip, InputOutput, LongShift as Shift, Extended, NotBuilt}
pub use Rattle.word.specs.Long.{places}
pub use Rattle.code.specs.Kinds.{registers, register_at}
use Rattle.code.specs.Codes.{find_word, find_kind}

-- The fields that are a choice: each choice and its number, and the choice at a number; past the last it is the last.

-- "AND 010000, JSB 014000, .. STB 074000": bits 14 to 11
abbrev pub operation_code : Operation → ℕ
operation_code And = 0o010000
operation_code Jsb = 0o014000
operation_code Xor = 0o020000
operation_code Jmp = 0o024000
operation_code Ior = 0o030000
operation_code Isz = 0o034000
operation_code Ada = 0o040000
operation_code Adb = 0o044000
operation_code Cpa = 0o050000
operation_code Cpb = 0o054000
operation_code Lda = 0o060000
operation_code Ldb = 0o064000
operation_code Sta = 0o070000
operation_code Stb = 0o074000

abbrev pub operations : List Operation
operations = And ∷ Jsb ∷ Xor ∷ Jmp ∷ Ior ∷ Isz ∷ Ada ∷ Adb ∷ Cpa ∷ Cpb ∷ Lda ∷ Ldb ∷ Sta ∷ Stb ∷ []

abbrev pub operation_at : ℕ → Operation
operation_at n = get_or operations (n - 2) Stb

-- "Bit 11 picks B."
abbrev pub register_flag : Register → ℕ
register_flag A = 0
register_flag B = 1

-- "Shift codes 0 to 7: ALS, ARS, RAL, RAR, ALR, ERA, ELA, ALF"
abbrev pub shift_number : ShiftCode → ℕ
shift_number Als = 0
shift_number Ars = 1
shift_number Ral = 2
shift_number Rar = 3
shift_number Alr = 4
shift_number Era = 5
shift_number Ela = 6
shift_number Alf = 7

abbrev pub shifts : List ShiftCode
shifts = Als ∷ Ars ∷ Ral ∷ Rar ∷ Alr ∷ Era ∷ Ela ∷ Alf ∷ []

abbrev pub shift_at : ℕ → ShiftCode
shift_at n = get_or shifts n Alf

-- "CLA 01, CMA 10, CCA 11", "CLE 01, CME 10, CCE 11"
abbrev pub alter_number : Alter → ℕ
alter_number Keep = 0
alter_number Clear = 1
alter_number Complement = 2
alter_number Ones = 3

abbrev pub alters : List Alter
alters = Keep ∷ Clear ∷ Complement ∷ Ones ∷ []

abbrev pub alter_at : ℕ → Alter
alter_at n = get_or alters n Ones

-- "bits 8 to 6: HLT 0, STF 1 (CLF with bit 9), SFC 2, SFS 3, MIA 4, LIA 5, OTA 6, STC 7 (CLC with bit 11)"
abbrev pub io_number : IoOperation → ℕ
io_number Hlt = 0
io_number Flag = 1
io_number Sfc = 2
io_number Sfs = 3
io_number Mia = 4
io_number Lia = 5
io_number Ota = 6
io_number Control = 7

abbrev pub ios : List IoOperation
ios = Hlt ∷ Flag ∷ Sfc ∷ Sfs ∷ Mia ∷ Lia ∷ Ota ∷ Control ∷ []

abbrev pub io_at : ℕ → IoOperation
io_at n = get_or ios n Control

-- Reading.

-- "bits 14 to 11 are the operation, bit 10 set means the page of the instruction, clear means page 0, bit 15 indirect"
abbrev pub memory_fields : ℕ → of_memory_reference.MemoryReference
memory_fields w =
    record {
      operation = operation_at (w / 0o4000 % 16);
      indirect = bit 15 w;
      current = bit 10 w;
      offset = w % 0o2000;
    }

unfoldable pub memory_reference : ℕ → Instruction
memory_reference w = MemoryReference (memory_fields w)

-- "First shift in bits 8 to 6, enabled by bit 9; CLE bit 5; SLA or SLB bit 3; second shift in bits 2 to 0, enabled by bit 4"
abbrev pub shift_fields : ℕ → of_shift_rotate.ShiftRotate
shift_fields w =
    record {
      register = register_at (w / 0o4000 % 2);
      enabled1 = bit 9 w;
      shift1 = shift_at (w / 0o100 % 8);
      cle = bit 5 w;
      sla = bit 3 w;
      enabled2 = bit 4 w;
      shift2 = shift_at (w % 8);
    }

unfoldable pub shift_rotate : ℕ → Instruction
shift_rotate w = ShiftRotate (shift_fields w)

-- "bits 9 and 8 .., SEZ bit 5, bits 7 and 6 .., SSA bit 4, SLA bit 3, INA bit 2, SZA bit 1, RSS bit 0"
abbrev pub alter_fields : ℕ → of_alter_skip.AlterSkip
alter_fields w =
    record {
      register = register_at (w / 0o4000 % 2);
      alter = alter_at (w / 0o400 % 4);
      sez = bit 5 w;
      extend = alter_at (w / 0o100 % 4);
      ssa = bit 4 w;
      sla = bit 3 w;
      ina = bit 2 w;
      sza = bit 1 w;
      rss = bit 0 w;
    }

unfoldable pub alter_skip : ℕ → Instruction
alter_skip w = AlterSkip (alter_fields w)

-- "bits 5 to 0 the select code"; bits 11 and 9 are kept for every code
unfoldable pub input_output : ℕ → Instruction
input_output w =
    InputOutput
    (record {
      operation = io_at (w / 0o100 % 8);
      bit11 = bit 11 w;
      bit9 = bit 9 w;
      select = w % 0o100;
    })

abbrev pub of_kind : Kind → ℕ → Instruction
of_kind (Exact e) w = Extended e
of_kind (Long s) w = Shift s (places w)

-- "a word that fits no rule here isn't built"
unfoldable pub extended : ℕ → Instruction
extended w = elim (find_word w) [ Some e ↦ of_kind e.kind w | None ↦ NotBuilt w ]

-- Memory reference words have an operation of 2 or more in bits 14 to 11. Of the others, bits 15 and 10 tell
-- shift/rotate 00, alter/skip 01, extended 10 and I/O 11.
unfoldable pub reading : ℕ → Instruction
reading w =
    cond (leb 2 (w / 0o4000 % 16)) (memory_reference w)
    (cond (bit 15 w) (cond (bit 10 w) (input_output w) (extended w)) (cond (bit 10 w) (alter_skip w) (shift_rotate w)))

-- Writing.

unfoldable pub write_memory_reference : of_memory_reference.MemoryReference → Option ℕ
write_memory_reference m =
    cond (ltb 0o1777 m.offset) None
    (Some (weight m.indirect * 0o100000 + operation_code m.operation + weight m.current * 0o2000 + m.offset))

unfoldable pub write_shift_rotate : of_shift_rotate.ShiftRotate → Option ℕ
write_shift_rotate s =
    Some
    (register_flag s.register * 0o4000 + weight s.enabled1 * 0o1000 + shift_number s.shift1 * 0o100
    + weight s.cle * 0o40 + weight s.enabled2 * 0o20 + weight s.sla * 0o10 + shift_number s.shift2)

unfoldable pub write_alter_skip : of_alter_skip.AlterSkip → Option ℕ
write_alter_skip s =
    Some
    (0o2000 + register_flag s.register * 0o4000 + alter_number s.alter * 0o400 + alter_number s.extend * 0o100
    + weight s.sez * 0o40 + weight s.ssa * 0o20 + weight s.sla * 0o10 + weight s.ina * 0o4 + weight s.sza * 0o2
    + weight s.rss)

unfoldable pub write_input_output : of_input_output.InputOutput → Option ℕ
write_input_output io =
    cond (ltb 0o77 io.select) None
    (Some (0o102000 + weight io.bit11 * 0o4000 + weight io.bit9 * 0o1000 + io_number io.operation * 0o100 + io.select))

-- a count of 1 to 16 in the low four bits
unfoldable pub write_long_shift : LongShift → ℕ → Option ℕ
write_long_shift s n =
    cond (eqb n 0) None
    (cond (ltb 16 n) None (elim (find_kind (Long s)) [ Some e ↦ Some (e.code + n % 16) | None ↦ None ]))

unfoldable pub write_extended : of_extended.Extended → Option ℕ
write_extended e = elim (find_kind (Exact e)) [ Some r ↦ Some r.code | None ↦ None ]

abbrev pub built : Instruction → Bool
built (MemoryReference m) = true
built (ShiftRotate s) = true
built (AlterSkip s) = true
built (InputOutput io) = true
built (Shift s n) = true
built (Extended e) = true
built (NotBuilt w) = false

-- a word that is not built, and is a word
unfoldable pub write_not_built : ℕ → Option ℕ
write_not_built w = cond (ltb w 0o200000) (cond (built (reading w)) None (Some w)) None

-- "no word reads as this instruction" is `None`
unfoldable pub writing : Instruction → Option ℕ
writing (MemoryReference m) = write_memory_reference m
writing (ShiftRotate s) = write_shift_rotate s
writing (AlterSkip s) = write_alter_skip s
writing (InputOutput io) = write_input_output io
writing (Shift s n) = write_long_shift s n
writing (Extended e) = write_extended e
writing (NotBuilt w) = write_not_built w

-- 01, "What a step replies": 9, with word 0, where there is none
abbrev pub reply : Option ℕ → ℕ
reply (Some w) = 0
reply None = 9

abbrev pub word_of : Option ℕ → ℕ
word_of (Some w) = w
word_of None = 0
