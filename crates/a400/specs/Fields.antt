-- An instruction as ten flat fields, and the calls that read and write one.
--     long_kind                     the numbers of the long shifts; those of the other choices are in Instructions of `code`
--     fields_of                     the fields of an instruction: its class, then those of the class; fields that it does not use are 0
--     same_words                    whether two lists hold the same words
--     word_below, writing_fields    the word that reads as these fields, or none
--     number_written                the writer's answer by its number
--     read_call, write_call         the two calls
-- What a word reads as is `reading`, of `code`. That no two words read as the same fields is in proofs/Inverse.antt.
-- Assumes nothing.
use Rattle.std.specs.Prelude.{ℕ, zero, suc, ◌/◌, Bool, cond, ◌&&◌, List, [], ◌∷◌, Option, Some, None, eqb, length, bytes_eq}
use Rattle.word.specs.Words.{weight}
use Rattle.word.specs.declared.long.LongShift.{LongShift}
use Rattle.word.specs.declared.long.LongShift.TheVariants.{Asl, Lsl, Rrl, Asr, Lsr, Rrr}
use Rattle.code.specs.declared.instructions.Instruction.{Instruction}
use Rattle.code.specs.declared.instructions.Instruction.TheVariants.{MemoryReference, ShiftRotate, AlterSkip, InputOutput, LongShift as Shift, Extended, NotBuilt}
use Rattle.code.specs.Instructions.{operation_code, register_flag, shift_number, alter_number, io_number, reading, writing, word_of}
use Rattle.acts.specs.Replies.{number}
use Rattle.acts.specs.declared.replies.Reply.{Reply}
use Rattle.a400.specs.Calls.{Answered, answered}

abbrev pub long_kind : LongShift → ℕ
long_kind Asl = 0
long_kind Lsl = 1
long_kind Rrl = 2
long_kind Asr = 3
long_kind Lsr = 4
long_kind Rrr = 5

-- an operation goes by bits 14 to 11, an exact code by the word that reads as it
abbrev pub fields_of : Instruction → List ℕ
fields_of (MemoryReference m) =
    0 ∷ operation_code m.operation / 0o4000 ∷ weight m.indirect ∷ weight m.current ∷ m.offset ∷ 0 ∷ 0 ∷ 0 ∷ 0 ∷ 0 ∷ []
fields_of (ShiftRotate s) =
    1 ∷ register_flag s.register ∷ weight s.enabled1 ∷ shift_number s.shift1 ∷ weight s.cle ∷ weight s.sla
    ∷ weight s.enabled2 ∷ shift_number s.shift2 ∷ 0 ∷ 0 ∷ []
fields_of (AlterSkip s) =
    2 ∷ register_flag s.register ∷ alter_number s.alter ∷ weight s.sez ∷ alter_number s.extend ∷ weight s.ssa
    ∷ weight s.sla ∷ weight s.ina ∷ weight s.sza ∷ weight s.rss ∷ []
fields_of (InputOutput io) =
    3 ∷ io_number io.operation ∷ weight io.bit11 ∷ weight io.bit9 ∷ io.select ∷ 0 ∷ 0 ∷ 0 ∷ 0 ∷ 0 ∷ []
fields_of (Shift s places) = 4 ∷ long_kind s ∷ places ∷ 0 ∷ 0 ∷ 0 ∷ 0 ∷ 0 ∷ 0 ∷ 0 ∷ []
fields_of (Extended e) = 5 ∷ word_of (writing (Extended e)) ∷ 0 ∷ 0 ∷ 0 ∷ 0 ∷ 0 ∷ 0 ∷ 0 ∷ 0 ∷ []
fields_of (NotBuilt w) = 6 ∷ w ∷ 0 ∷ 0 ∷ 0 ∷ 0 ∷ 0 ∷ 0 ∷ 0 ∷ 0 ∷ []

abbrev pub same_words : List ℕ → List ℕ → Bool
same_words = bytes_eq

-- the word below n that reads as these fields, or none
unfoldable pub word_below : ℕ → List ℕ → Option ℕ
word_below zero f = None
word_below (suc n) f = cond (same_words f (fields_of (reading n))) (Some n) (word_below n f)

unfoldable pub writing_fields : List ℕ → Option ℕ
writing_fields f = word_below 0o200000 f

unfoldable pub read_call : ℕ → List ℕ → Answered
read_call w f = cond (eqb (length f) 10) (answered (number Reply.Completed) (fields_of (reading w))) (answered (number Reply.BadCall) f)

-- 01, reply 9: "no word reads as this instruction", "word 0"
abbrev pub number_written : Option ℕ → ℕ
number_written (Some v) = number Reply.Completed
number_written None = 9

unfoldable pub write_call : List ℕ → List ℕ → Answered
write_call f w =
    cond (eqb (length f) 10 && eqb (length w) 1)
    (answered (number_written (writing_fields f)) (word_of (writing_fields f) ∷ []))
    (answered (number Reply.BadCall) w)
