-- Reading and writing are inverse: the theorems. Their proofs are in Fields, Rows and Again.
-- Assumes nothing.
use mathlib.Core.Path.{◌≡◌, refl, ◌∙◌, sym, ap}
use mathlib.Core.Bool.{true}
use Prim.Native.Nat.{ℕ, ◌<◌}
use native.Mathlib.Omega.{arith}
use Rattle.std.specs.Prelude.{Option, Some, None}
use Rattle.code.specs.declared.instructions.Instruction.{Instruction}
use Rattle.code.specs.declared.instructions.Instruction.TheVariants.{NotBuilt}
use Rattle.code.specs.Codes.{privileged}
use Rattle.code.specs.Instructions.{reading, writing, reply, word_of}
use Rattle.code.proofs.Again.{word_again, instruction_again, privileged_again}

-- Every word of 16 bits is written again from what it reads as.
pub read_then_write : (w : ℕ) → w < 0o200000 → writing (reading w) ≡ Some w
read_then_write w h = word_again w h

-- Where an instruction has a word, that word has 16 bits and reads as the instruction.
pub write_then_read : (i : Instruction) (w : ℕ) → writing i ≡ Some w → reading w ≡ i
write_then_read i w h = (instruction_again i w h).1

pub is_word : (i : Instruction) (w : ℕ) → writing i ≡ Some w → w < 0o200000
is_word i w h = (instruction_again i w h).0

-- 01, reply 9, "no word reads as this instruction": where the writer has no word, no word reads so.
pub no_word : (i : Instruction) → writing i ≡ None → (w : ℕ) → w < 0o200000 → reading w ≡ i → ⊥
no_word i h w l e = one_answer (sym (read_then_write w l) ∙ ap writing e ∙ h)
  where
    one_answer : Some w ≡ None → ⊥
    one_answer q = cc

-- Where some word reads as an instruction, the writer has that word.
pub has_word : (i : Instruction) (w : ℕ) → w < 0o200000 → reading w ≡ i → writing i ≡ Some w
has_word i w l e = ap writing (sym e) ∙ read_then_write w l

-- No two instructions have the same word.
pub one_word : (i j : Instruction) (w : ℕ) → writing i ≡ Some w → writing j ≡ Some w → i ≡ j
one_word i j w h k = sym (write_then_read i w h) ∙ write_then_read j w k

-- 105700 to 105711 are not built.
pub privileged_unbuilt : (w : ℕ) → privileged w ≡ true → reading w ≡ NotBuilt w
privileged_unbuilt w h = privileged_again w h

-- The paper's number and word tell the writer's answers apart.
pub numbered : (a b : Option ℕ) → reply a ≡ reply b → word_of a ≡ word_of b → a ≡ b
numbered (Some v) (Some w) r h = ap Some h
numbered (Some v) None r h = absurd (omega arith)
numbered None (Some w) r h = absurd (omega arith)
numbered None None r h = refl
