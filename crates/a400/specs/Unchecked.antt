-- An instruction from ten fields, whatever they are. It is only what private functions promise each other: a reader may skip it, as
-- what the calls give is said in Fields without it.
--     longs, long_at    the long shifts by their number, and the one at a number
--     field, is_set     a field, and whether it is 1
--     memory_reference_at, shift_rotate_at, alter_skip_at, input_output_at, instruction_at    the instruction
-- A number out of range is taken for some choice; the instruction then has other fields.
-- Assumes nothing.
use Rattle.std.specs.Prelude.{ℕ, Bool, cond, List, [], ◌∷◌, eqb, get_or}
use Rattle.word.specs.declared.long.LongShift.{LongShift}
use Rattle.word.specs.declared.long.LongShift.TheVariants.{Asl, Lsl, Rrl, Asr, Lsr, Rrr}
use Rattle.code.specs.declared.instructions.MemoryReference as of_memory_reference
use Rattle.code.specs.declared.instructions.ShiftRotate as of_shift_rotate
use Rattle.code.specs.declared.instructions.AlterSkip as of_alter_skip
use Rattle.code.specs.declared.instructions.InputOutput as of_input_output
use Rattle.code.specs.declared.instructions.Instruction.{Instruction}
use Rattle.code.specs.declared.instructions.Instruction.TheVariants.{MemoryReference, ShiftRotate, AlterSkip, InputOutput, LongShift as Shift}
use Rattle.code.specs.Instructions.{operation_at, register_at, shift_at, alter_at, io_at, reading}

abbrev pub longs : List LongShift
longs = Asl ∷ Lsl ∷ Rrl ∷ Asr ∷ Lsr ∷ Rrr ∷ []

abbrev pub long_at : ℕ → LongShift
long_at n = get_or longs n Rrr

abbrev pub field : List ℕ → ℕ → ℕ
field f n = get_or f n 0

abbrev pub is_set : List ℕ → ℕ → Bool
is_set f n = eqb (field f n) 1

abbrev pub memory_reference_at : List ℕ → of_memory_reference.MemoryReference
memory_reference_at f =
    record {
      operation = operation_at (field f 1);
      indirect = is_set f 2;
      current = is_set f 3;
      offset = field f 4;
    }

abbrev pub shift_rotate_at : List ℕ → of_shift_rotate.ShiftRotate
shift_rotate_at f =
    record {
      register = register_at (field f 1);
      enabled1 = is_set f 2;
      shift1 = shift_at (field f 3);
      cle = is_set f 4;
      sla = is_set f 5;
      enabled2 = is_set f 6;
      shift2 = shift_at (field f 7);
    }

abbrev pub alter_skip_at : List ℕ → of_alter_skip.AlterSkip
alter_skip_at f =
    record {
      register = register_at (field f 1);
      alter = alter_at (field f 2);
      sez = is_set f 3;
      extend = alter_at (field f 4);
      ssa = is_set f 5;
      sla = is_set f 6;
      ina = is_set f 7;
      sza = is_set f 8;
      rss = is_set f 9;
    }

abbrev pub input_output_at : List ℕ → of_input_output.InputOutput
input_output_at f =
    record {
      operation = io_at (field f 1);
      bit11 = is_set f 2;
      bit9 = is_set f 3;
      select = field f 4;
    }

-- an exact code, and a word that is not built, go by their word
unfoldable pub instruction_at : List ℕ → Instruction
instruction_at f =
    let class : ℕ = field f 0 in
    cond (eqb class 0) (MemoryReference (memory_reference_at f))
    (cond (eqb class 1) (ShiftRotate (shift_rotate_at f))
    (cond (eqb class 2) (AlterSkip (alter_skip_at f))
    (cond (eqb class 3) (InputOutput (input_output_at f))
    (cond (eqb class 4) (Shift (long_at (field f 1)) (field f 2)) (reading (field f 1))))))
