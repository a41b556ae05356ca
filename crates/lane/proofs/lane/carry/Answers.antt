-- `lane::carry` meets its contract. Assumes nothing.
use Prim.Native.Nat.{ℕ, ◌/◌, ◌%◌, ◌≤◌, ◌<◌}
use mathlib.Core.Path.{◌≡◌, refl}
use native.Mathlib.Omega.{arith}
use borrow.Author.Tests.{eq-eqb, ne_eqb}
use Rattle.code.specs.Instructions.{shift_rotate, alter_skip}
use Rattle.code.specs.declared.codes.Register.TheVariants.{A, B}
use Rattle.effects.specs.Group.{shift_rotated, alter_skipped}
use Rattle.lane.specs.Lane.{carried}
use Rattle.lane.proofs.Ways.{finished, comparing}
use Rattle.lane.proofs.lane.carry.Goals as goal

fifteen : (n : ℕ) → 15 ≤ n → n < 16 → n ≡ 15
fifteen n l m = omega arith

pub returns-then-word-eq1 : goal.returns-then-word-eq1
unfolding carried alter_skip
returns-then-word-eq1 c = rw (c.in-0.is, eq-eqb _ _ c.if-word-eq1.true) (finished c.args.pages.now c.args.memory.now c.args.r (alter_skipped _) c.args.memory.now c.alter.ensures)

pub returns-else-word-eq1 : goal.returns-else-word-eq1
unfolding carried shift_rotate
returns-else-word-eq1 c = rw (c.in-0.is, ne_eqb _ _ c.if-word-eq1.false) (finished c.args.pages.now c.args.memory.now c.args.r (shift_rotated _) c.args.memory.now c.shift.ensures)

pub returns-then-word-eq1-2 : goal.returns-then-word-eq1-2
unfolding carried alter_skip
returns-then-word-eq1-2 c = rw (c.in-1.is, eq-eqb _ _ c.if-word-eq1-2.true) (finished c.args.pages.now c.args.memory.now c.args.r (alter_skipped _) c.args.memory.now c.alter-then-word-eq1-2.ensures)

pub returns-else-word-eq1-2 : goal.returns-else-word-eq1-2
unfolding carried shift_rotate
returns-else-word-eq1-2 c = rw (c.in-1.is, ne_eqb _ _ c.if-word-eq1-2.false) (finished c.args.pages.now c.args.memory.now c.args.r (shift_rotated _) c.args.memory.now c.shift-else-word-eq1-2.ensures)

pub returns-then-r-v : goal.returns-then-r-v
unfolding carried
returns-then-r-v c =
    let a = c.args in
    rw c.in-10.is (comparing a.pages.now a.memory.now a.r A a.at c.read.ensures c.in_ok-v-in-10.ensures.value (rw (eq-eqb _ _ c.if-r-v.true) refl) c.ahead-then-r-v.ensures)

pub returns-else-r-v : goal.returns-else-r-v
unfolding carried
returns-else-r-v c =
    let a = c.args in
    rw c.in-10.is (comparing a.pages.now a.memory.now a.r A a.at c.read.ensures c.in_ok-v-in-10.ensures.value (rw (ne_eqb _ _ c.if-r-v.false) refl) c.ahead-else-r-v.ensures)

pub returns-then-r-v-2 : goal.returns-then-r-v-2
unfolding carried
returns-then-r-v-2 c =
    let a = c.args in
    rw c.in-11.is (comparing a.pages.now a.memory.now a.r B a.at c.read-in-11.ensures c.in_ok-v-in-11.ensures.value (rw (eq-eqb _ _ c.if-r-v-2.true) refl) c.ahead-then-r-v-2.ensures)

pub returns-else-r-v-2 : goal.returns-else-r-v-2
unfolding carried
returns-else-r-v-2 c =
    let a = c.args in
    rw c.in-11.is (comparing a.pages.now a.memory.now a.r B a.at c.read-in-11.ensures c.in_ok-v-in-11.ensures.value (rw (ne_eqb _ _ c.if-r-v-2.false) refl) c.ahead-else-r-v-2.ensures)

pub returns-in_default : goal.returns-in_default
unfolding carried
returns-in_default c = rw (fifteen (c.args.word / 0o4000 % 16) (omega arith) (omega arith), ← c.past-in_default.ensures) c.put-in_default.ensures
