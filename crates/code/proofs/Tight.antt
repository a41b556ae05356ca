-- Each promise fixes its outcome: two results that satisfy a function's own contract, as its `Reads` has it, are equal. In the
-- order of src/: choices, codes, instructions.
-- Assumes nothing.
use mathlib.Core.Path.{sym, ◌∙◌}
use Rattle.word.proofs.Tight.{OneResult}
use Rattle.code.proofs.choices.U16FromOperation.from.Kinds as operation_code
use Rattle.code.proofs.choices.U16FromOperation.from.Reads as operation_code_reads
use Rattle.code.proofs.choices.U16FromRegister.from.Kinds as register_flag
use Rattle.code.proofs.choices.U16FromRegister.from.Reads as register_flag_reads
use Rattle.code.proofs.choices.shift_number.Kinds as shift_number
use Rattle.code.proofs.choices.shift_number.Reads as shift_number_reads
use Rattle.code.proofs.choices.U16FromAlter.from.Kinds as alter_number
use Rattle.code.proofs.choices.U16FromAlter.from.Reads as alter_number_reads
use Rattle.code.proofs.choices.U16FromIoOperation.from.Kinds as io_number
use Rattle.code.proofs.choices.U16FromIoOperation.from.Reads as io_number_reads
use Rattle.code.proofs.choices.operation_at.Kinds as operation_at
use Rattle.code.proofs.choices.operation_at.Reads as operation_at_reads
use Rattle.code.proofs.choices.register_at.Kinds as register_at
use Rattle.code.proofs.choices.register_at.Reads as register_at_reads
use Rattle.code.proofs.choices.shift_at.Kinds as shift_at
use Rattle.code.proofs.choices.shift_at.Reads as shift_at_reads
use Rattle.code.proofs.choices.alter_at.Kinds as alter_at
use Rattle.code.proofs.choices.alter_at.Reads as alter_at_reads
use Rattle.code.proofs.choices.io_at.Kinds as io_at
use Rattle.code.proofs.choices.io_at.Reads as io_at_reads
use Rattle.code.proofs.codes.find_word.Kinds as find_word
use Rattle.code.proofs.codes.find_word.Reads as find_word_reads
use Rattle.code.proofs.codes.find_kind.Kinds as find_kind
use Rattle.code.proofs.codes.find_kind.Reads as find_kind_reads
use Rattle.code.proofs.codes.extended_length.Kinds as extended_length
use Rattle.code.proofs.codes.extended_length.Reads as extended_length_reads
use Rattle.code.proofs.codes.is_privileged.Kinds as is_privileged
use Rattle.code.proofs.codes.is_privileged.Reads as is_privileged_reads
use Rattle.code.proofs.instructions.memory_reference_of.Kinds as memory_reference_of
use Rattle.code.proofs.instructions.memory_reference_of.Reads as memory_reference_of_reads
use Rattle.code.proofs.instructions.shift_rotate_of.Kinds as shift_rotate_of
use Rattle.code.proofs.instructions.shift_rotate_of.Reads as shift_rotate_of_reads
use Rattle.code.proofs.instructions.alter_skip_of.Kinds as alter_skip_of
use Rattle.code.proofs.instructions.alter_skip_of.Reads as alter_skip_of_reads
use Rattle.code.proofs.instructions.read_instruction.Kinds as read_instruction
use Rattle.code.proofs.instructions.read_instruction.Reads as read_instruction_reads
use Rattle.code.proofs.instructions.write_instruction.Kinds as write_instruction
use Rattle.code.proofs.instructions.write_instruction.Reads as write_instruction_reads

pub operation_code_tight : OneResult 0 operation_code.ps operation_code.r operation_code_reads.Post
operation_code_tight κs a x y s t p q = p.0 ∙ sym q.0

pub register_flag_tight : OneResult 0 register_flag.ps register_flag.r register_flag_reads.Post
register_flag_tight κs a x y s t p q = p.0 ∙ sym q.0

pub shift_number_tight : OneResult 0 shift_number.ps shift_number.r shift_number_reads.Post
shift_number_tight κs a x y s t p q = p.0 ∙ sym q.0

pub alter_number_tight : OneResult 0 alter_number.ps alter_number.r alter_number_reads.Post
alter_number_tight κs a x y s t p q = p.0 ∙ sym q.0

pub io_number_tight : OneResult 0 io_number.ps io_number.r io_number_reads.Post
io_number_tight κs a x y s t p q = p.0 ∙ sym q.0

pub operation_at_tight : OneResult 0 operation_at.ps operation_at.r operation_at_reads.Post
operation_at_tight κs a x y s t p q = p ∙ sym q

pub register_at_tight : OneResult 0 register_at.ps register_at.r register_at_reads.Post
register_at_tight κs a x y s t p q = p ∙ sym q

pub shift_at_tight : OneResult 0 shift_at.ps shift_at.r shift_at_reads.Post
shift_at_tight κs a x y s t p q = p ∙ sym q

pub alter_at_tight : OneResult 0 alter_at.ps alter_at.r alter_at_reads.Post
alter_at_tight κs a x y s t p q = p ∙ sym q

pub io_at_tight : OneResult 0 io_at.ps io_at.r io_at_reads.Post
io_at_tight κs a x y s t p q = p ∙ sym q

pub find_word_tight : OneResult 0 find_word.ps find_word.r find_word_reads.Post
find_word_tight κs a x y s t p q = p ∙ sym q

pub find_kind_tight : OneResult 0 find_kind.ps find_kind.r find_kind_reads.Post
find_kind_tight κs a x y s t p q = p ∙ sym q

pub extended_length_tight : OneResult 0 extended_length.ps extended_length.r extended_length_reads.Post
extended_length_tight κs a x y s t p q = p ∙ sym q

pub is_privileged_tight : OneResult 0 is_privileged.ps is_privileged.r is_privileged_reads.Post
is_privileged_tight κs a x y s t p q = p ∙ sym q

pub memory_reference_of_tight : OneResult 0 memory_reference_of.ps memory_reference_of.r memory_reference_of_reads.Post
memory_reference_of_tight κs a x y s t p q = p ∙ sym q

pub shift_rotate_of_tight : OneResult 0 shift_rotate_of.ps shift_rotate_of.r shift_rotate_of_reads.Post
shift_rotate_of_tight κs a x y s t p q = p ∙ sym q

pub alter_skip_of_tight : OneResult 0 alter_skip_of.ps alter_skip_of.r alter_skip_of_reads.Post
alter_skip_of_tight κs a x y s t p q = p ∙ sym q

pub read_instruction_tight : OneResult 0 read_instruction.ps read_instruction.r read_instruction_reads.Post
read_instruction_tight κs a x y s t p q = p ∙ sym q

pub write_instruction_tight : OneResult 0 write_instruction.ps write_instruction.r write_instruction_reads.Post
write_instruction_tight κs a x y s t p q = p ∙ sym q
