-- The fields of an instruction that are a choice, and their numbers: each way back.
--     operation_back, register_back, shift_back, alter_back, io_back    the choice of a choice's number
--     operation_code_lem, register_number, shift_number_lem, alter_number_lem, io_number_lem    the number of a number's choice
--     operation_range, register_small, shift_small, alter_small, io_small    how large a choice's number is
--     last_choice   a number past the last choice gives the last
--     flag_weight, flag_small    the number that `u16::from` gives a flag
-- Assumes nothing.
use mathlib.Core.Path.{◌≡◌, refl, sym}
use mathlib.Core.Logic.{⊎_elim}
use mathlib.Core.List.{List}
use mathlib.Core.Bool.{Bool, true, false}
use Rattle.std.specs.Int.{from_bool}
use Rattle.word.specs.Words.{weight}
use Prim.Native.Nat.{ℕ, suc, ◌+◌, ◌*◌, ◌/◌, ◌-◌, ◌≤◌, ◌<◌}
use native.Mathlib.Omega.{arith}
use native.Mathlib.Nat.{eq-or-lt_of_le}
use borrow.Author.Tests.{eqb-true}
use lib.Dec.{eqb}
use lib.ListN.{length, get_or, get_or-eq_default}
use Rattle.word.specs.declared.shifts.ShiftCode.{ShiftCode}
use Rattle.word.specs.declared.shifts.ShiftCode.TheVariants.{Als, Ars, Ral, Rar, Alr, Era, Ela, Alf}
use Rattle.code.specs.declared.codes.Register.{Register}
use Rattle.code.specs.declared.codes.Register.TheVariants.{A, B}
use Rattle.code.specs.declared.instructions.Operation.{Operation}
use Rattle.code.specs.declared.instructions.Operation.TheVariants.{And, Jsb, Xor, Jmp, Ior, Isz, Ada, Adb, Cpa, Cpb, Lda, Ldb, Sta, Stb}
use Rattle.code.specs.declared.instructions.Alter.{Alter}
use Rattle.code.specs.declared.instructions.Alter.TheVariants.{Keep, Clear, Complement, Ones}
use Rattle.code.specs.declared.instructions.IoOperation.{IoOperation}
use Rattle.code.specs.declared.instructions.IoOperation.TheVariants.{Hlt, Flag, Sfc, Sfs, Mia, Lia, Ota, Control}
use Rattle.code.specs.Instructions.{operation_code, operation_at, register_flag, register_at, shift_number, shift_at}
use Rattle.code.specs.Instructions.{alter_number, alter_at, io_number, io_at}
use Rattle.code.proofs.Digits.{under}

pub operation_back : (o : Operation) → operation_at (operation_code o / 0o4000) ≡ o
operation_back And = refl
operation_back Jsb = refl
operation_back Xor = refl
operation_back Jmp = refl
operation_back Ior = refl
operation_back Isz = refl
operation_back Ada = refl
operation_back Adb = refl
operation_back Cpa = refl
operation_back Cpb = refl
operation_back Lda = refl
operation_back Ldb = refl
operation_back Sta = refl
operation_back Stb = refl

pub register_back : (o : Register) → register_at (register_flag o) ≡ o
register_back A = refl
register_back B = refl

pub shift_back : (o : ShiftCode) → shift_at (shift_number o) ≡ o
shift_back Als = refl
shift_back Ars = refl
shift_back Ral = refl
shift_back Rar = refl
shift_back Alr = refl
shift_back Era = refl
shift_back Ela = refl
shift_back Alf = refl

pub alter_back : (o : Alter) → alter_at (alter_number o) ≡ o
alter_back Keep = refl
alter_back Clear = refl
alter_back Complement = refl
alter_back Ones = refl

pub io_back : (o : IoOperation) → io_at (io_number o) ≡ o
io_back Hlt = refl
io_back Flag = refl
io_back Sfc = refl
io_back Sfs = refl
io_back Mia = refl
io_back Lia = refl
io_back Ota = refl
io_back Control = refl

pub operation_code_lem : (n : ℕ) → 2 ≤ n → n < 16 → operation_code (operation_at n) ≡ n * 0o4000
operation_code_lem n l h =
    let m : (n - 2) + 2 ≡ n = omega arith in
    let t = eqb-true (operation_code (operation_at ((n - 2) + 2))) (((n - 2) + 2) * 0o4000)
    (under (λ i. eqb (operation_code (operation_at (i + 2))) ((i + 2) * 0o4000)) 14 tt (n - 2) (omega arith)) in
    rw m at t

pub register_number : (n : ℕ) → n < 2 → register_flag (register_at n) ≡ n
register_number n h = eqb-true (register_flag (register_at n)) n (under (λ i. eqb (register_flag (register_at i)) i) 2 tt n h)

pub shift_number_lem : (n : ℕ) → n < 8 → shift_number (shift_at n) ≡ n
shift_number_lem n h = eqb-true (shift_number (shift_at n)) n (under (λ i. eqb (shift_number (shift_at i)) i) 8 tt n h)

pub alter_number_lem : (n : ℕ) → n < 4 → alter_number (alter_at n) ≡ n
alter_number_lem n h = eqb-true (alter_number (alter_at n)) n (under (λ i. eqb (alter_number (alter_at i)) i) 4 tt n h)

pub io_number_lem : (n : ℕ) → n < 8 → io_number (io_at n) ≡ n
io_number_lem n h = eqb-true (io_number (io_at n)) n (under (λ i. eqb (io_number (io_at i)) i) 8 tt n h)

pub operation_range :
    (o : Operation) →
    (2 ≤ operation_code o / 0o4000) × (operation_code o / 0o4000 < 16) × (operation_code o / 0o4000 * 0o4000 ≡ operation_code o)
operation_range And = omega arith
operation_range Jsb = omega arith
operation_range Xor = omega arith
operation_range Jmp = omega arith
operation_range Ior = omega arith
operation_range Isz = omega arith
operation_range Ada = omega arith
operation_range Adb = omega arith
operation_range Cpa = omega arith
operation_range Cpb = omega arith
operation_range Lda = omega arith
operation_range Ldb = omega arith
operation_range Sta = omega arith
operation_range Stb = omega arith

pub register_small : (o : Register) → register_flag o < 2
register_small A = omega arith
register_small B = omega arith

pub shift_small : (o : ShiftCode) → shift_number o < 8
shift_small Als = omega arith
shift_small Ars = omega arith
shift_small Ral = omega arith
shift_small Rar = omega arith
shift_small Alr = omega arith
shift_small Era = omega arith
shift_small Ela = omega arith
shift_small Alf = omega arith

pub alter_small : (o : Alter) → alter_number o < 4
alter_small Keep = omega arith
alter_small Clear = omega arith
alter_small Complement = omega arith
alter_small Ones = omega arith

pub io_small : (o : IoOperation) → io_number o < 8
io_small Hlt = omega arith
io_small Flag = omega arith
io_small Sfc = omega arith
io_small Sfs = omega arith
io_small Mia = omega arith
io_small Lia = omega arith
io_small Ota = omega arith
io_small Control = omega arith

-- a flag, as `u16::from` gives it
pub flag_weight : (b : Bool) → from_bool b ≡ weight b
flag_weight true = refl
flag_weight false = refl

pub flag_small : (b : Bool) → from_bool b < 2
flag_small true = omega arith
flag_small false = omega arith

-- The last choice, at k, is the default as well.
pub last_choice :
    {A : Type 0} (l : List A) (d : A) (n k : ℕ) → get_or l k d ≡ d → length l ≡ suc k → k ≤ n → d ≡ get_or l n d
last_choice l d n k last all h =
    ⊎_elim (λ (q : k ≡ n). rw (← q) (sym last)) (λ (p : k < n). sym (get_or-eq_default l d {n = n} (rw all p))) (eq-or-lt_of_le h)
