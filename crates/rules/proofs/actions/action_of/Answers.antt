-- `actions::action_of` meets its contract: each arm is the action of what was read. Assumes nothing.
use borrow.Author.Tests.{le-leb}
use Rattle.code.specs.Instructions.{reading, memory_reference}
use Rattle.rules.proofs.actions.action_of.Goals as goal

pub returns-then-word-ge2 : goal.returns-then-word-ge2
unfolding reading memory_reference
returns-then-word-ge2 c = rw (reading, le-leb _ _ c.if-word-ge2.true, memory_reference, c.reference.ensures, c.memory_reference_of.ensures)

pub returns-in-MemoryReference : goal.returns-in-MemoryReference
returns-in-MemoryReference c = rw (← c.read_instruction.ensures, c.in-MemoryReference.is, c.reference-in-MemoryReference.ensures)

pub returns-in-ShiftRotate : goal.returns-in-ShiftRotate
returns-in-ShiftRotate c = rw (← c.read_instruction.ensures, c.in-ShiftRotate.is)

pub returns-in-AlterSkip : goal.returns-in-AlterSkip
returns-in-AlterSkip c = rw (← c.read_instruction.ensures, c.in-AlterSkip.is)

pub returns-in-InputOutput : goal.returns-in-InputOutput
returns-in-InputOutput c = rw (← c.read_instruction.ensures, c.in-InputOutput.is)

pub returns-in-LongShift : goal.returns-in-LongShift
returns-in-LongShift c = rw (← c.read_instruction.ensures, c.in-LongShift.is)

pub returns-in-Extended : goal.returns-in-Extended
returns-in-Extended c = rw (← c.read_instruction.ensures, c.in-Extended.is, c.extended.ensures)

pub returns-in-NotBuilt : goal.returns-in-NotBuilt
returns-in-NotBuilt c = rw (← c.read_instruction.ensures, c.in-NotBuilt.is)
