-- `trap::carry_out_trap` meets its contract: by the two tests of the cell's operation. Assumes nothing.
use Rattle.std.proofs.Common.{refl, ◌∙◌}
use borrow.Author.Tests.{eq-eqb, ne_eqb}
use Rattle.acts.specs.Acts.{exec}
use Rattle.rules.specs.Rules.{trap_rule}
use Rattle.steps.proofs.trap.carry_out_trap.Goals as goal

pub returns-then-operation-from : goal.returns-then-operation-from
unfolding trap_rule
returns-then-operation-from c = rw (eq-eqb _ _ (c.if-operation-from.true ∙ c.from.ensures.0), ← c.memory_word-at.ensures) c.trap_jump.ensures

pub returns-then-operation-from-2 : goal.returns-then-operation-from-2
unfolding trap_rule
returns-then-operation-from-2 c =
    rw (ne_eqb _ _ (rw c.from.ensures.0 at c.if-operation-from.false), eq-eqb _ _ (c.if-operation-from-2.true ∙ c.from-2.ensures.0), ← c.memory_word-at.ensures) c.trap_jump_saving.ensures

pub returns : goal.returns
unfolding trap_rule exec
returns c =
    rw (ne_eqb _ _ (rw c.from.ensures.0 at c.if-operation-from.false), ne_eqb _ _ (rw c.from-2.ensures.0 at c.if-operation-from-2.false))
    (record { outcome = refl; memory = refl })
