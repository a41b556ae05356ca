-- The four groups that their leading bits decide: each word of a group is written again, and each instruction of a
-- group is read again.
--     memory_again, shift_again, alter_again, io_again    a word written from what it reads as
--     is_memory, is_shift, is_alter, is_extended, is_io   which group a word is of
--     memory_read, shift_read, alter_read, io_read        an instruction read from the word that it is written as
-- Assumes nothing.
use mathlib.Core.Path.{◌≡◌, refl, ◌∙◌, ap}
use mathlib.Core.Bool.{Bool, true, false}
use Prim.Native.Nat.{ℕ, ◌+◌, ◌*◌, ◌/◌, ◌%◌, ◌≤◌, ◌<◌}
use native.Mathlib.Omega.{arith}
use native.Mathlib.Nat.{div-add-mod', div-one}
use borrow.Author.Tests.{eqb-true, le-ltb, le-leb, lt-leb, ltb-false}
use lib.Dec.{eqb, ltb}
use Rattle.std.specs.Prelude.{Some, None}
use Rattle.word.specs.Words.{weight}
use Rattle.code.specs.declared.instructions.MemoryReference as of_memory_reference
use Rattle.code.specs.declared.instructions.ShiftRotate as of_shift_rotate
use Rattle.code.specs.declared.instructions.AlterSkip as of_alter_skip
use Rattle.code.specs.declared.instructions.InputOutput as of_input_output
use Rattle.code.specs.declared.instructions.Instruction.{Instruction}
use Rattle.code.specs.declared.instructions.Instruction.TheVariants.{MemoryReference, ShiftRotate, AlterSkip, InputOutput}
use Rattle.code.specs.Instructions.{operation_code, register_flag, shift_number, alter_number, io_number, word_of}
use Rattle.code.specs.Instructions.{memory_reference, shift_rotate, alter_skip, input_output, extended, reading, writing}
use Rattle.code.specs.Instructions.{write_memory_reference, write_shift_rotate, write_alter_skip, write_input_output}
use Rattle.code.proofs.Digits.{split, under, digit, low}
use Rattle.code.proofs.Picks.{operation_range, register_small, shift_small, alter_small, io_small}
use Rattle.code.proofs.Picks.{operation_back, register_back, shift_back, alter_back, io_back}
use Rattle.code.proofs.Picks.{operation_code_lem, register_number, shift_number_lem, alter_number_lem, io_number_lem}

flag_bit : (n : ℕ) → n < 2 → weight (eqb n 1) ≡ n
flag_bit n h = eqb-true (weight (eqb n 1)) n (under (λ i. eqb (weight (eqb i 1)) i) 2 tt n h)

-- A word from its digits: each equation takes one digit off, from the low end; the last gives what the leading bits leave.
seven :
    {w a b c d e f g h : ℕ} (p q r s t u v x : ℕ) →
    a * 8 + p ≡ w → b * 2 + q ≡ a → c * 2 + r ≡ b → d * 2 + s ≡ c → e * 8 + t ≡ d → f * 2 + u ≡ e → g * 2 + v ≡ f →
    g ≡ h * 16 + x → h ≡ 0 → v ≡ 0 → x * 0o4000 + u * 0o1000 + t * 0o100 + s * 0o40 + r * 0o20 + q * 0o10 + p ≡ w
seven p q r s t u v x e₁ e₂ e₃ e₄ e₅ e₆ e₇ e₈ e₉ e₁₀ = omega arith

ten :
    {w a b c d e f g h i j : ℕ} (p q r s t u v x y z : ℕ) →
    a * 2 + p ≡ w → b * 2 + q ≡ a → c * 2 + r ≡ b → d * 2 + s ≡ c → e * 2 + t ≡ d → f * 2 + u ≡ e → g * 4 + v ≡ f →
    h * 4 + x ≡ g → i * 2 + y ≡ h → i ≡ j * 16 + z → j ≡ 0 → y ≡ 1 →
    0o2000 + z * 0o4000 + x * 0o400 + v * 0o100 + u * 0o40 + t * 0o20 + s * 0o10 + r * 0o4 + q * 0o2 + p ≡ w
ten p q r s t u v x y z e₁ e₂ e₃ e₄ e₅ e₆ e₇ e₈ e₉ e₁₀ e₁₁ e₁₂ = omega arith

four :
    {w a b c d e : ℕ} (p q r s t : ℕ) →
    a * 0o100 + p ≡ w → b * 8 + q ≡ a → c * 2 + r ≡ b → d * 2 + s ≡ c → d ≡ e * 16 + t → e ≡ 1 → s ≡ 1 →
    0o102000 + t * 0o4000 + r * 0o1000 + q * 0o100 + p ≡ w
four p q r s t e₁ e₂ e₃ e₄ e₅ e₆ e₇ = omega arith

module _ (w : ℕ) (fits : w < 0o200000) where
  -- bit k of the word, by its weight
  bit_is : (m : ℕ) → weight (eqb (w / m % 2) 1) ≡ w / m % 2
  bit_is m = flag_bit (w / m % 2) (omega arith)

  pub memory_again : 2 ≤ w / 0o4000 % 16 → writing (memory_reference w) ≡ Some w
  unfolding writing memory_reference write_memory_reference
  memory_again o =
      let off : w % 0o2000 ≤ 0o1777 = omega arith in
      rw (le-ltb 0o1777 (w % 0o2000) off, bit_is 0o100000, bit_is 0o2000, operation_code_lem (w / 0o4000 % 16) o (omega arith))
      (ap Some (omega (arith, split 0o2000 2 w, split 0o4000 16 w)))

  -- what the leading bits leave
  top : w / 0o4000 % 16 < 2 → w / 0o4000 ≡ w / 0o100000 % 2 * 16 + w / 0o4000 % 2
  top lead = omega (arith, split 0o4000 16 w)

  module _ (lead : w / 0o4000 % 16 < 2) where
    pub shift_again : w / 0o100000 % 2 ≡ 0 → w / 0o2000 % 2 ≡ 0 → writing (shift_rotate w) ≡ Some w
    unfolding writing shift_rotate write_shift_rotate
    shift_again h15 h10 =
        rw (
          bit_is 0o1000,
          bit_is 0o40,
          bit_is 0o20,
          bit_is 0o10,
          register_number (w / 0o4000 % 2) (omega arith),
          shift_number_lem (w / 0o100 % 8) (omega arith),
          shift_number_lem (w % 8) (omega arith),
        )
        (ap Some
        (seven (w % 8) (w / 0o10 % 2) (w / 0o20 % 2) (w / 0o40 % 2) (w / 0o100 % 8) (w / 0o1000 % 2) (w / 0o2000 % 2) (w / 0o4000 % 2)
        (div-add-mod' w 8) (split 0o10 2 w) (split 0o20 2 w) (split 0o40 2 w) (split 0o100 8 w) (split 0o1000 2 w)
        (split 0o2000 2 w) (top lead) h15 h10))

    pub alter_again : w / 0o100000 % 2 ≡ 0 → w / 0o2000 % 2 ≡ 1 → writing (alter_skip w) ≡ Some w
    unfolding writing alter_skip write_alter_skip
    alter_again h15 h10 =
        rw (
          bit_is 0o40,
          bit_is 0o20,
          bit_is 0o10,
          bit_is 0o4,
          bit_is 0o2,
          bit_is 1,
          div-one,
          register_number (w / 0o4000 % 2) (omega arith),
          alter_number_lem (w / 0o400 % 4) (omega arith),
          alter_number_lem (w / 0o100 % 4) (omega arith),
        )
        (ap Some
        (ten (w % 2) (w / 2 % 2) (w / 4 % 2) (w / 0o10 % 2) (w / 0o20 % 2) (w / 0o40 % 2) (w / 0o100 % 4) (w / 0o400 % 4) (w / 0o2000 % 2)
        (w / 0o4000 % 2) (div-add-mod' w 2) (split 2 2 w) (split 4 2 w) (split 0o10 2 w) (split 0o20 2 w) (split 0o40 2 w) (split 0o100 4 w)
        (split 0o400 4 w) (split 0o2000 2 w) (top lead) h15 h10))

    pub io_again : w / 0o100000 % 2 ≡ 1 → w / 0o2000 % 2 ≡ 1 → writing (input_output w) ≡ Some w
    unfolding writing input_output write_input_output
    io_again h15 h10 =
        let select : w % 0o100 ≤ 0o77 = omega arith in
        rw (le-ltb 0o77 (w % 0o100) select, bit_is 0o4000, bit_is 0o1000, io_number_lem (w / 0o100 % 8) (omega arith))
        (ap Some
        (four (w % 0o100) (w / 0o100 % 8) (w / 0o1000 % 2) (w / 0o2000 % 2) (w / 0o4000 % 2)
        (div-add-mod' w 0o100) (split 0o100 8 w) (split 0o1000 2 w) (split 0o2000 2 w) (top lead) h15 h10))

-- Reading again.

bit_flag : (b : Bool) → eqb (weight b) 1 ≡ b
bit_flag true = refl
bit_flag false = refl

flag_small : (b : Bool) → weight b < 2
flag_small true = omega arith
flag_small false = omega arith

pub no_word : {w : ℕ} → None ≡ Some w → ⊥
no_word h = cc

module _ (w : ℕ) where
  pub is_memory : 2 ≤ w / 0o4000 % 16 → reading w ≡ memory_reference w
  unfolding reading
  is_memory h = rw (le-leb 2 (w / 0o4000 % 16) h)

  module _ (lead : w / 0o4000 % 16 < 2) where
    pub is_shift : w / 0o100000 % 2 ≡ 0 → w / 0o2000 % 2 ≡ 0 → reading w ≡ shift_rotate w
    unfolding reading
    is_shift h15 h10 = rw (lt-leb 2 (w / 0o4000 % 16) lead, h15, h10)

    pub is_alter : w / 0o100000 % 2 ≡ 0 → w / 0o2000 % 2 ≡ 1 → reading w ≡ alter_skip w
    unfolding reading
    is_alter h15 h10 = rw (lt-leb 2 (w / 0o4000 % 16) lead, h15, h10)

    pub is_extended : w / 0o100000 % 2 ≡ 1 → w / 0o2000 % 2 ≡ 0 → reading w ≡ extended w
    unfolding reading
    is_extended h15 h10 = rw (lt-leb 2 (w / 0o4000 % 16) lead, h15, h10)

    pub is_io : w / 0o100000 % 2 ≡ 1 → w / 0o2000 % 2 ≡ 1 → reading w ≡ input_output w
    unfolding reading
    is_io h15 h10 = rw (lt-leb 2 (w / 0o4000 % 16) lead, h15, h10)

-- w is a word, and reads as i
abbrev pub Reads : ℕ → Instruction → Type 0
Reads w i = (w < 0o200000) × (reading w ≡ i)

pub memory_read : (m : of_memory_reference.MemoryReference) (w : ℕ) → write_memory_reference m ≡ Some w → Reads w (MemoryReference m)
unfolding write_memory_reference memory_reference
memory_read m w e = go (ltb 0o1777 m.offset) refl (operation_range m.operation) (flag_small m.indirect) (flag_small m.current)
  where
    go :
        (b : Bool) → ltb 0o1777 m.offset ≡ b →
        (2 ≤ operation_code m.operation / 0o4000) × (operation_code m.operation / 0o4000 < 16)
        × (operation_code m.operation / 0o4000 * 0o4000 ≡ operation_code m.operation) →
        weight m.indirect < 2 → weight m.current < 2 → Reads w (MemoryReference m)
    go true h r fi fc = absurd (no_word (rw h at e))
    go false h r fi fc =
        let s : weight m.indirect * 0o100000 + operation_code m.operation + weight m.current * 0o2000 + m.offset ≡ w = ap word_of (rw h at e) in
        let l : m.offset ≤ 0o1777 = ltb-false 0o1777 m.offset h in
        let b : w < 0o200000 = omega arith in
        let f₁ : w / 0o4000 % 16 ≡ operation_code m.operation / 0o4000 = omega arith in
        let f₂ : w / 0o100000 % 2 ≡ weight m.indirect = omega arith in
        let f₃ : w / 0o2000 % 2 ≡ weight m.current = omega arith in
        let f₄ : w % 0o2000 ≡ m.offset = omega arith in (
          b,
          is_memory w (rw f₁ r.0) ∙ rw (f₁, f₂, f₃, f₄, operation_back m.operation, bit_flag m.indirect, bit_flag m.current),
        )

pub shift_read : (s : of_shift_rotate.ShiftRotate) (w : ℕ) → write_shift_rotate s ≡ Some w → Reads w (ShiftRotate s)
unfolding write_shift_rotate shift_rotate
shift_read s w e =
    go (register_flag s.register) (weight s.enabled1) (shift_number s.shift1) (weight s.cle) (weight s.enabled2) (weight s.sla)
    (shift_number s.shift2) (ap word_of e) refl refl refl refl refl refl refl (register_small s.register) (flag_small s.enabled1)
    (shift_small s.shift1) (flag_small s.cle) (flag_small s.enabled2) (flag_small s.sla) (shift_small s.shift2)
  where
    go :
        (r a p c d l q : ℕ) → r * 0o4000 + a * 0o1000 + p * 0o100 + c * 0o40 + d * 0o20 + l * 0o10 + q ≡ w →
        register_flag s.register ≡ r → weight s.enabled1 ≡ a → shift_number s.shift1 ≡ p → weight s.cle ≡ c →
        weight s.enabled2 ≡ d → weight s.sla ≡ l → shift_number s.shift2 ≡ q →
        r < 2 → a < 2 → p < 8 → c < 2 → d < 2 → l < 2 → q < 8 → Reads w (ShiftRotate s)
    go r a p c d l q sum er ea ep ec ed el eq lr la lp lc ld ll lq = (
      omega arith,
      is_shift w (rw (digit 0o4000 16 0 r (a * 0o1000 + p * 0o100 + c * 0o40 + d * 0o20 + l * 0o10 + q) w (omega arith) (omega arith) (omega arith)) lr)
          (digit 0o100000 2 0 0 (r * 0o4000 + a * 0o1000 + p * 0o100 + c * 0o40 + d * 0o20 + l * 0o10 + q) w (omega arith) (omega arith) (omega arith))
          (digit 0o2000 2 r 0 (a * 0o1000 + p * 0o100 + c * 0o40 + d * 0o20 + l * 0o10 + q) w (omega arith) (omega arith) (omega arith))
          ∙ rw (
            digit 0o4000 2 0 r (a * 0o1000 + p * 0o100 + c * 0o40 + d * 0o20 + l * 0o10 + q) w (omega arith) lr (omega arith),
            digit 0o1000 2 (r * 2) a (p * 0o100 + c * 0o40 + d * 0o20 + l * 0o10 + q) w (omega arith) la (omega arith),
            digit 0o100 8 (r * 4 + a) p (c * 0o40 + d * 0o20 + l * 0o10 + q) w (omega arith) lp (omega arith),
            digit 0o40 2 (r * 32 + a * 8 + p) c (d * 0o20 + l * 0o10 + q) w (omega arith) lc (omega arith),
            digit 0o20 2 (r * 64 + a * 16 + p * 2 + c) d (l * 0o10 + q) w (omega arith) ld (omega arith),
            digit 0o10 2 (r * 128 + a * 32 + p * 4 + c * 2 + d) l q w (omega arith) ll lq,
            low 8 (r * 256 + a * 64 + p * 8 + c * 4 + d * 2 + l) q w (omega arith) lq,
            ← er,
            ← ea,
            ← ep,
            ← ec,
            ← ed,
            ← el,
            ← eq,
            register_back s.register,
            bit_flag s.enabled1,
            shift_back s.shift1,
            bit_flag s.cle,
            bit_flag s.enabled2,
            bit_flag s.sla,
            shift_back s.shift2,
          ),
    )

pub alter_read : (f : of_alter_skip.AlterSkip) (w : ℕ) → write_alter_skip f ≡ Some w → Reads w (AlterSkip f)
unfolding write_alter_skip alter_skip
alter_read f w e =
    go (register_flag f.register) (alter_number f.alter) (alter_number f.extend) (weight f.sez) (weight f.ssa) (weight f.sla) (weight f.ina) (weight f.sza) (weight f.rss)
    (ap word_of e) refl refl refl refl refl refl refl refl refl
    (register_small f.register) (alter_small f.alter) (alter_small f.extend) (flag_small f.sez) (flag_small f.ssa) (flag_small f.sla) (flag_small f.ina) (flag_small f.sza) (flag_small f.rss)
  where
    go :
        (z x v u t s r q p : ℕ) →
        0o2000 + z * 0o4000 + x * 0o400 + v * 0o100 + u * 0o40 + t * 0o20 + s * 0o10 + r * 0o4 + q * 0o2 + p ≡ w →
        register_flag f.register ≡ z → alter_number f.alter ≡ x → alter_number f.extend ≡ v → weight f.sez ≡ u → weight f.ssa ≡ t → weight f.sla ≡ s → weight f.ina ≡ r → weight f.sza ≡ q → weight f.rss ≡ p →
        z < 2 → x < 4 → v < 4 → u < 2 → t < 2 → s < 2 → r < 2 → q < 2 → p < 2 → Reads w (AlterSkip f)
    go z x v u t s r q p sum ez ex ev eu et es er eq ep lz lx lv lu lt ls lr lq lp = (
      omega arith,
      is_alter w
          (rw (digit 0o4000 16 0 z (1 * 0o2000 + x * 0o400 + v * 0o100 + u * 0o40 + t * 0o20 + s * 0o10 + r * 0o4 + q * 0o2 + p) w (omega arith) (omega arith) (omega arith)) lz)
          (digit 0o100000 2 0 0 (z * 0o4000 + 1 * 0o2000 + x * 0o400 + v * 0o100 + u * 0o40 + t * 0o20 + s * 0o10 + r * 0o4 + q * 0o2 + p) w (omega arith) (omega arith) (omega arith))
          (digit 0o2000 2 z 1 (x * 0o400 + v * 0o100 + u * 0o40 + t * 0o20 + s * 0o10 + r * 0o4 + q * 0o2 + p) w (omega arith) (omega arith) (omega arith))
          ∙ rw (
            div-one,
            digit 0o4000 2 0 z (1 * 0o2000 + x * 0o400 + v * 0o100 + u * 0o40 + t * 0o20 + s * 0o10 + r * 0o4 + q * 0o2 + p) w (omega arith) lz (omega arith),
            digit 0o400 4 (z * 2 + 1) x (v * 0o100 + u * 0o40 + t * 0o20 + s * 0o10 + r * 0o4 + q * 0o2 + p) w (omega arith) lx (omega arith),
            digit 0o100 4 (z * 8 + 1 * 4 + x) v (u * 0o40 + t * 0o20 + s * 0o10 + r * 0o4 + q * 0o2 + p) w (omega arith) lv (omega arith),
            digit 0o40 2 (z * 32 + 1 * 16 + x * 4 + v) u (t * 0o20 + s * 0o10 + r * 0o4 + q * 0o2 + p) w (omega arith) lu (omega arith),
            digit 0o20 2 (z * 64 + 1 * 32 + x * 8 + v * 2 + u) t (s * 0o10 + r * 0o4 + q * 0o2 + p) w (omega arith) lt (omega arith),
            digit 0o10 2 (z * 128 + 1 * 64 + x * 16 + v * 4 + u * 2 + t) s (r * 0o4 + q * 0o2 + p) w (omega arith) ls (omega arith),
            digit 0o4 2 (z * 256 + 1 * 128 + x * 32 + v * 8 + u * 4 + t * 2 + s) r (q * 0o2 + p) w (omega arith) lr (omega arith),
            digit 0o2 2 (z * 512 + 1 * 256 + x * 64 + v * 16 + u * 8 + t * 4 + s * 2 + r) q p w (omega arith) lq (omega arith),
            low 2 (z * 1024 + 1 * 512 + x * 128 + v * 32 + u * 16 + t * 8 + s * 4 + r * 2 + q) p w (omega arith) lp,
            ← ez,
            ← ex,
            ← ev,
            ← eu,
            ← et,
            ← es,
            ← er,
            ← eq,
            ← ep,
            register_back f.register,
            alter_back f.alter,
            alter_back f.extend,
            bit_flag f.sez,
            bit_flag f.ssa,
            bit_flag f.sla,
            bit_flag f.ina,
            bit_flag f.sza,
            bit_flag f.rss,
          ),
    )

pub io_read : (io : of_input_output.InputOutput) (w : ℕ) → write_input_output io ≡ Some w → Reads w (InputOutput io)
unfolding write_input_output input_output
io_read io w e =
    go (ltb 0o77 io.select) refl (weight io.bit11) (weight io.bit9) (io_number io.operation) refl refl refl (flag_small io.bit11)
    (flag_small io.bit9) (io_small io.operation)
  where
    go :
        (k : Bool) → ltb 0o77 io.select ≡ k → (a b d : ℕ) → weight io.bit11 ≡ a → weight io.bit9 ≡ b → io_number io.operation ≡ d →
        a < 2 → b < 2 → d < 8 → Reads w (InputOutput io)
    go true h a b d ea eb ed la lb ld = absurd (no_word (rw h at e))
    go false h a b d ea eb ed la lb ld =
        let sum : 0o102000 + a * 0o4000 + b * 0o1000 + d * 0o100 + io.select ≡ w = rw (ea, eb, ed) at (ap word_of (rw h at e)) in
        let ln : io.select < 0o100 = omega (arith, ltb-false 0o77 io.select h) in (
          omega arith,
          is_io w
              (rw (digit 0o4000 16 1 a (0o2000 + b * 0o1000 + d * 0o100 + io.select) w (omega arith) (omega arith) (omega arith)) la)
              (digit 0o100000 2 0 1 (0o2000 + a * 0o4000 + b * 0o1000 + d * 0o100 + io.select) w (omega arith) (omega arith) (omega arith))
              (digit 0o2000 2 (16 + a) 1 (b * 0o1000 + d * 0o100 + io.select) w (omega arith) (omega arith) (omega arith))
              ∙ rw (
                digit 0o4000 2 8 a (0o2000 + b * 0o1000 + d * 0o100 + io.select) w (omega arith) la (omega arith),
                digit 0o1000 2 (33 + a * 2) b (d * 0o100 + io.select) w (omega arith) lb (omega arith),
                digit 0o100 8 (66 + a * 4 + b) d io.select w (omega arith) ld ln,
                low 0o100 (528 + a * 32 + b * 8 + d) io.select w (omega arith) ln,
                ← ea,
                ← eb,
                ← ed,
                bit_flag io.bit11,
                bit_flag io.bit9,
                io_back io.operation,
              ),
        )
