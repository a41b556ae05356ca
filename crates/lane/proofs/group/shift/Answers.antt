-- `group::shift` meets its contract. Assumes nothing.
use mathlib.Core.Path.{refl, sym, ◌∙◌}
use Rattle.lane.proofs.Groups.{shifted_by}
use Rattle.lane.proofs.Ways.{even}
use Rattle.lane.proofs.group.shift.Goals as goal

pub returns-then-i-t : goal.returns-then-i-t
returns-then-i-t c =
    let i = c.shift_rotate_of-i in let t = c.shift_place-t in
    rw (← i.ensures) (c.ahead.ensures ∙ rw c.with_register-s.ensures (shifted_by c.args.g i.result c.args.r (rw i.ensures (sym c.requires)) (rw c.register.ensures at t.ensures) c.shift_place-u.ensures (rw (← even t.result.word, c.if-i-t.true) refl)))

pub returns-else-i-t : goal.returns-else-i-t
returns-else-i-t c =
    let i = c.shift_rotate_of-i in let t = c.shift_place-t in
    rw (← i.ensures) (c.ahead-else-i-t.ensures ∙ rw c.with_register-s.ensures (shifted_by c.args.g i.result c.args.r (rw i.ensures (sym c.requires)) (rw c.register.ensures at t.ensures) c.shift_place-u.ensures (rw (← even t.result.word, c.if-i-t.false) refl)))
