-- Reading and writing fields are inverse: the theorems.
--     long_back, flag_back        the choice of a choice's number
--     instruction_back            an instruction that has a word is taken again from its fields
--     read-back                   so what a word reads as is
--     one_word                    and no two words read as the same fields
--     exact_word                  where a word reads as an exact code, it is the field that the code goes by
--     is_word, write_then_read    where fields have a word, it has 16 bits and reads as these fields
--     no_word_reads               where fields have no word, no word reads as them
--     read_then_write             the fields that a word reads as are written as that word
-- Assumes nothing.
use Prim.Native.Nat.{ℕ, ◌<◌}
use mathlib.Core.Path.{◌≡◌, refl, sym, ap, ◌∙◌}
use mathlib.Core.Bool.{Bool, true, false}
use mathlib.Core.List.{List}
use lib.Dec.{eqb}
use lib.ListN.{get_or}
use Rattle.word.specs.Words.{weight}
use Rattle.word.specs.declared.long.LongShift.{LongShift}
use Rattle.word.specs.declared.long.LongShift.TheVariants.{Asl, Lsl, Rrl, Asr, Lsr, Rrr}
use Rattle.std.specs.Prelude.{Option, Some, None}
use Rattle.code.specs.declared.codes.Extended as of_extended
use Rattle.code.specs.declared.instructions.Instruction.{Instruction}
use Rattle.code.specs.declared.instructions.Instruction.TheVariants.{MemoryReference, ShiftRotate, AlterSkip, InputOutput, LongShift as Shift, Extended, NotBuilt}
use Rattle.code.specs.Instructions.{reading, writing, built, word_of}
use Rattle.code.proofs.Picks.{operation_back, register_back, shift_back, alter_back, io_back}
use Rattle.code.proofs.Rows.{unbuilt}
use Rattle.code.proofs.Exact as exact
use Rattle.a400.specs.Fields.{long_kind, fields_of, writing_fields}
use Rattle.a400.specs.Unchecked.{long_at, instruction_at}
use Rattle.a400.proofs.WordSearch.{below_reads, below_none}

long_back : (s : LongShift) → long_at (long_kind s) ≡ s
long_back Asl = refl
long_back Lsl = refl
long_back Rrl = refl
long_back Asr = refl
long_back Lsr = refl
long_back Rrr = refl

flag_back : (b : Bool) → eqb (weight b) 1 ≡ b
flag_back true = refl
flag_back false = refl

pub instruction_back : (i : Instruction) (w : ℕ) → writing i ≡ Some w → instruction_at (fields_of i) ≡ i
unfolding instruction_at
instruction_back (MemoryReference m) w h = rw (operation_back m.operation, flag_back m.indirect, flag_back m.current) refl
instruction_back (ShiftRotate s) w h =
    rw (register_back s.register, flag_back s.enabled1, shift_back s.shift1, flag_back s.cle, flag_back s.sla, flag_back s.enabled2, shift_back s.shift2) refl
instruction_back (AlterSkip s) w h =
    rw (register_back s.register, alter_back s.alter, flag_back s.sez, alter_back s.extend, flag_back s.ssa, flag_back s.sla, flag_back s.ina, flag_back s.sza, flag_back s.rss) refl
instruction_back (InputOutput io) w h = rw (io_back io.operation, flag_back io.bit11, flag_back io.bit9) refl
instruction_back (Shift s places) w h = rw (long_back s) refl
instruction_back (Extended e) w h = rw h (exact.write_then_read (Extended e) w h)
instruction_back (NotBuilt v) w h =
    let r : reading w ≡ NotBuilt v = exact.write_then_read (NotBuilt v) w h in
    let u : reading w ≡ NotBuilt w = unbuilt w (ap built r) in
    let e : w ≡ v = cc in
    rw e at r

pub read_back : (w : ℕ) → w < 0o200000 → instruction_at (fields_of (reading w)) ≡ reading w
read_back w h = instruction_back (reading w) w (exact.read_then_write w h)

pub one_word : (v w : ℕ) → v < 0o200000 → w < 0o200000 → fields_of (reading v) ≡ fields_of (reading w) → v ≡ w
one_word v w h k e =
    let r : reading v ≡ reading w = sym (read_back v h) ∙ ap instruction_at e ∙ read_back w k in
    ap word_of (sym (exact.read_then_write v h) ∙ ap writing r ∙ exact.read_then_write w k)

pub exact_word : (w : ℕ) (e : of_extended.Extended) → w < 0o200000 → reading w ≡ Extended e → get_or (fields_of (reading w)) 1 0 ≡ w
exact_word w e h r = rw r (ap word_of (ap writing (sym r) ∙ exact.read_then_write w h))

-- Where fields have a word, that word has 16 bits and reads as these fields.
pub is_word : (f : List ℕ) (w : ℕ) → writing_fields f ≡ Some w → w < 0o200000
unfolding writing_fields
is_word f w h = (below_reads f 0o200000 w h).0

pub write_then_read : (f : List ℕ) (w : ℕ) → writing_fields f ≡ Some w → fields_of (reading w) ≡ f
unfolding writing_fields
write_then_read f w h = (below_reads f 0o200000 w h).1

-- Where fields have no word, no word reads as them.
pub no_word_reads : (f : List ℕ) → writing_fields f ≡ None → (w : ℕ) → w < 0o200000 → fields_of (reading w) ≡ f → ⊥
unfolding writing_fields
no_word_reads f h w b e = below_none f 0o200000 h w b e

-- Every word of 16 bits is written again from the fields that it reads as.
pub read_then_write : (w : ℕ) → w < 0o200000 → writing_fields (fields_of (reading w)) ≡ Some w
read_then_write w h = go (writing_fields f) refl
  where
    f : List ℕ
    f = fields_of (reading w)

    go : (a : Option ℕ) → writing_fields f ≡ a → writing_fields f ≡ Some w
    go (Some v) e = e ∙ ap Some (one_word v w (is_word f v e) h (write_then_read f v e))
    go None e = absurd (no_word_reads f e w h refl)
