-- The writer of fields, put together from its parts.
--     wrote, unwritten           the fields are those of the instruction taken from them, or not
--     word_written, no_word      the call's answer to each
-- Assumes nothing.
use Prim.Native.Nat.{ℕ}
use mathlib.Core.Path.{◌≡◌, refl, sym, ap, ◌∙◌}
use mathlib.Core.List.{List}
use lib.ListN.{length, set}
use borrow.Author.Tests.{eq-eqb}
use Rattle.std.specs.Prelude.{Option, Some, None}
use Rattle.code.specs.Instructions.{reading, writing}
use Rattle.code.specs.declared.instructions.Instruction.{Instruction}
use Rattle.code.proofs.Exact as exact
use Rattle.a400.specs.Calls.{Answers}
use Rattle.a400.specs.Fields.{fields_of, writing_fields, write_call}
use Rattle.a400.specs.Unchecked.{instruction_at}
use Rattle.a400.proofs.Records.{one_number}
use Rattle.a400.proofs.Inverse.{read_back, is_word, write_then_read, no_word_reads}

module _ (f : List ℕ) (i : Instruction) (again : List ℕ) (p : i ≡ instruction_at f) (q : again ≡ fields_of i) where
  -- where some word reads as the fields, the instruction taken from them is what it reads as
  is_read : (v : ℕ) → writing_fields f ≡ Some v → i ≡ reading v
  is_read v e = p ∙ ap instruction_at (sym (write_then_read f v e)) ∙ read_back v (is_word f v e)

  pub wrote : f ≡ again → writing i ≡ writing_fields f
  wrote h = go (writing_fields f) (writing i) refl refl
    where
      go : (a b : Option ℕ) → writing_fields f ≡ a → writing i ≡ b → writing i ≡ writing_fields f
      go (Some v) b e k = ap writing (is_read v e) ∙ exact.read_then_write v (is_word f v e) ∙ sym e
      go None (Some w) e k =
          absurd (no_word_reads f e w (exact.is_word i w k) (ap fields_of (exact.write_then_read i w k) ∙ sym (h ∙ q)))
      go None None e k = k ∙ sym e

  pub unwritten : (f ≡ again → ⊥) → None ≡ writing_fields f
  unwritten h = go (writing_fields f) refl
    where
      go : (a : Option ℕ) → writing_fields f ≡ a → None ≡ writing_fields f
      go (Some v) e = absurd (h (sym (q ∙ ap fields_of (is_read v e) ∙ write_then_read f v e)))
      go None e = sym e

module _ (f w : List ℕ) (tens : length f ≡ 10) (one : length w ≡ 1) where
  pub word_written : (v : ℕ) → writing_fields f ≡ Some v → Answers (write_call f w) 0 (set w 0 v)
  unfolding write_call
  word_written v h = rw (eq-eqb _ _ tens, eq-eqb _ _ one, h, write_call) (record { outcome = refl; words = one_number w v one })

  pub no_word : writing_fields f ≡ None → Answers (write_call f w) 9 (set w 0 0)
  unfolding write_call
  no_word h = rw (eq-eqb _ _ tens, eq-eqb _ _ one, h, write_call) (record { outcome = refl; words = one_number w 0 one })
