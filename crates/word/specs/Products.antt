-- 01: "MPY: signed A times operand, high half in B". "DIV: signed B,A by the operand, quotient toward zero in A, remainder
-- with the dividend's sign in B"; "with divisor 0 or a quotient outside -32,768 to 32,767" the overflow answer, None. Not here:
-- O, which the step sets or clears by the answer; the laws of the quotient and the remainder (`Quotients` of proofs/) and both
-- ends of the range (`Cases`). Assumes nothing.
use Rattle.std.specs.Prelude.{ℕ, ◌/◌, ◌%◌, cond, not, ◌&&◌, ℤ, ◌*ℤ◌, ◌==◌, int_div, int_rem, Option, Some, None}
use Rattle.word.specs.Words.{joined}
use Rattle.std.specs.Int.{w16, w32}
use Rattle.word.specs.Signed.{signed, bits_of, within}
use Rattle.word.specs.declared.products.Product.{Product}
use Rattle.word.specs.declared.products.Quotient.{Quotient}

unfoldable pub multiplied : ℕ → ℕ → Product
multiplied a m =
    let d : ℕ = bits_of w32 (signed w16 a *ℤ signed w16 m) in
    record { b = d / 0o200000; a = d % 0o200000 }

abbrev pub quotient_of : ℤ → ℤ → Option Quotient
quotient_of z k = Some (record { quotient = bits_of w16 (int_div z k); remainder = bits_of w16 (int_rem z k) })

unfoldable pub divided : ℕ → ℕ → ℕ → Option Quotient
divided b a m =
    let z : ℤ = signed w32 (joined b a) in
    let k : ℤ = signed w16 m in
    cond (not (m == 0) && within w16 (int_div z k)) (quotient_of z k) None
