-- `group::input_output` meets its contract: by what its calls ensure. Assumes nothing.
use Rattle.std.proofs.Common.{refl, eq-eqb}
use borrow.Author.Tests.{ne_eqb}
use Rattle.acts.specs.Acts.{exec}
use Rattle.effects.specs.Group.{io_act}
use Rattle.effects.proofs.group.input_output.Goals as goal

pub returns-then-is_protecting-is_halt : goal.returns-then-is_protecting-is_halt
unfolding exec io_act
returns-then-is_protecting-is_halt c = rw (← c.is_protecting.ensures, ← c.is_halt.ensures, c.if-is_protecting-is_halt.true) (λ pages m. record { outcome = refl; memory = refl })

pub returns-then-io-eq1 : goal.returns-then-io-eq1
unfolding exec io_act
returns-then-io-eq1 c = rw (← c.is_protecting.ensures, ← c.is_halt.ensures, c.if-is_protecting-is_halt.false, eq-eqb c.args.io.select 1 c.if-io-eq1.true) c.panel.ensures

pub returns : goal.returns
unfolding exec io_act
returns c = rw (← c.is_protecting.ensures, ← c.is_halt.ensures, c.if-is_protecting-is_halt.false, ne_eqb c.args.io.select 1 c.if-io-eq1.false) (λ pages m. record { outcome = refl; memory = refl })
