-- The groups together: every word written again, every instruction that has a word read again. The theorems are in Exact.
-- Assumes nothing.
use mathlib.Core.Path.{◌≡◌, refl}
use mathlib.Core.Bool.{Bool, true, false, not}
use Prim.Native.Nat.{ℕ, ◌+◌, ◌-◌, ◌/◌, ◌%◌, ◌<◌}
use native.Mathlib.Omega.{arith}
use borrow.Author.Tests.{eqb-true, eqb-false, leb-true, leb-false, not-true}
use lib.Dec.{T, eqb, leb}
use Rattle.word.specs.Words.{bit}
use Rattle.std.specs.Prelude.{Some}
use Rattle.code.specs.declared.instructions.Instruction.{Instruction}
use Rattle.code.specs.declared.instructions.Instruction.TheVariants.{MemoryReference, ShiftRotate, AlterSkip, InputOutput, LongShift as Shift, Extended, NotBuilt}
use Rattle.code.specs.Codes.{rows, find_word, privileged}
use Rattle.code.specs.Instructions.{memory_reference, shift_rotate, alter_skip, input_output, extended, reading, built, writing}
use Rattle.code.proofs.Digits.{below, under}
use Rattle.code.proofs.Truth.{both}
use Rattle.code.proofs.Fields.{memory_again, shift_again, alter_again, io_again, memory_read, shift_read, alter_read, io_read}
use Rattle.code.proofs.Fields.{Reads, is_memory, is_shift, is_alter, is_extended, is_io}
use Rattle.code.proofs.Rows.{unbuilt, extended_again, exact_read, long_read, not_built_read}

pub word_again : (w : ℕ) → w < 0o200000 → writing (reading w) ≡ Some w
word_again w fits = go (leb 2 (w / 0o4000 % 16)) (bit 15 w) (bit 10 w) refl refl refl
  where
    off : (n : ℕ) → eqb (n % 2) 1 ≡ false → n % 2 ≡ 0
    off n h = let z = eqb-false (n % 2) 1 h in omega arith

    go :
        (a b c : Bool) → leb 2 (w / 0o4000 % 16) ≡ a → bit 15 w ≡ b → bit 10 w ≡ c → writing (reading w) ≡ Some w
    go true b c p q r =
        let lead = leb-true 2 (w / 0o4000 % 16) p in rw (is_memory w lead) (memory_again w fits lead)
    go false true true p q r =
        let lead = leb-false 2 (w / 0o4000 % 16) p in
        let set15 = eqb-true (w / 0o100000 % 2) 1 q in
        let set10 = eqb-true (w / 0o2000 % 2) 1 r in
        rw (is_io w lead set15 set10) (io_again w fits lead set15 set10)
    go false true false p q r =
        let here = is_extended w (leb-false 2 (w / 0o4000 % 16) p) (eqb-true (w / 0o100000 % 2) 1 q) (off (w / 0o2000) r) in
        rw here (extended_again w fits here)
    go false false true p q r =
        let lead = leb-false 2 (w / 0o4000 % 16) p in
        let clear15 = off (w / 0o100000) q in
        let set10 = eqb-true (w / 0o2000 % 2) 1 r in
        rw (is_alter w lead clear15 set10) (alter_again w fits lead clear15 set10)
    go false false false p q r =
        let lead = leb-false 2 (w / 0o4000 % 16) p in
        let clear15 = off (w / 0o100000) q in
        let clear10 = off (w / 0o2000) r in
        rw (is_shift w lead clear15 clear10) (shift_again w fits lead clear15 clear10)

pub instruction_again : (i : Instruction) (w : ℕ) → writing i ≡ Some w → Reads w i
unfolding writing
instruction_again (MemoryReference m) w h = memory_read m w h
instruction_again (ShiftRotate s) w h = shift_read s w h
instruction_again (AlterSkip s) w h = alter_read s w h
instruction_again (InputOutput io) w h = io_read io w h
instruction_again (Shift s n) w h = long_read s n w h
instruction_again (Extended x) w h = exact_read x w h
instruction_again (NotBuilt v) w h = not_built_read v w h

-- the ten words of the privilege test
ten_unbuilt : T (below (λ n. not (built (reading (n + 0o105700)))) 10)
unfolding reading memory_reference shift_rotate alter_skip input_output extended find_word rows
ten_unbuilt = tt

pub privileged_again : (w : ℕ) → privileged w ≡ true → reading w ≡ NotBuilt w
privileged_again w h =
    let b = both (leb 0o105700 w) (leb w 0o105711) h in
    let l = leb-true 0o105700 w b.0 in
    let m = leb-true w 0o105711 b.1 in
    let e : w - 0o105700 + 0o105700 ≡ w = omega arith in
    let t = under (λ n. not (built (reading (n + 0o105700)))) 10 ten_unbuilt (w - 0o105700) (omega arith) in
    unbuilt w (not-true (built (reading w)) (rw e at t))
