-- `group::alter` meets its contract. Assumes nothing.
use mathlib.Core.Path.{refl, sym, ◌∙◌}
use Rattle.lane.proofs.Groups.{with_ina, no_ina}
use Rattle.lane.proofs.group.alter.Goals as goal
use Rattle.lane.proofs.group.alter.Goals.{then-i, else-i}

pub returns-then-is_met : goal.returns-then-is_met
returns-then-is_met c =
    let i = c.alter_skip_of-i in let g = c.args.g in let r = c.args.r in let w = rw c.register.ensures at c.alter_word-w.ensures in
    rw (← i.ensures) (c.ahead.ensures ∙ rw c.with_register-s.ensures (elim c.if-i.branch [
      | then-i b ↦ with_ina g i.result r (rw i.ensures (sym c.requires)) w c.alter_extend-e.ensures (rw (← c.is_met.ensures, c.if-is_met.true) refl) b.if-i.true (b.s-is ∙ b.set_flags-s.ensures ∙ rw b.increment-t.ensures refl) (b.u-is ∙ rw b.increment-t.ensures refl)
      | else-i b ↦ no_ina g i.result r (rw i.ensures (sym c.requires)) w c.alter_extend-e.ensures (rw (← c.is_met.ensures, c.if-is_met.true) refl) b.if-i.false b.s-is b.u-is
    ]))

pub returns-else-is_met : goal.returns-else-is_met
returns-else-is_met c =
    let i = c.alter_skip_of-i in let g = c.args.g in let r = c.args.r in let w = rw c.register.ensures at c.alter_word-w.ensures in
    rw (← i.ensures) (c.ahead-else-is_met.ensures ∙ rw c.with_register-s.ensures (elim c.if-i.branch [
      | then-i b ↦ with_ina g i.result r (rw i.ensures (sym c.requires)) w c.alter_extend-e.ensures (rw (← c.is_met.ensures, c.if-is_met.false) refl) b.if-i.true (b.s-is ∙ b.set_flags-s.ensures ∙ rw b.increment-t.ensures refl) (b.u-is ∙ rw b.increment-t.ensures refl)
      | else-i b ↦ no_ina g i.result r (rw i.ensures (sym c.requires)) w c.alter_extend-e.ensures (rw (← c.is_met.ensures, c.if-is_met.false) refl) b.if-i.false b.s-is b.u-is
    ]))
