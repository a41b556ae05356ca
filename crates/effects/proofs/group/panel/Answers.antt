-- `group::panel` meets its contract: an arm for each operation. Assumes nothing.
use Rattle.std.proofs.Common.{refl}
use mathlib.Core.Logic.{inl, inr}
use Rattle.acts.specs.Acts.{exec}
use Rattle.effects.specs.Group.{panel_act}
use Rattle.effects.proofs.group.panel.Goals as goal

pub returns-in-Flag : goal.returns-in-Flag
unfolding exec panel_act
returns-in-Flag c = rw (c.in-Flag.is, c.set_overflow.ensures) (λ pages m. record { outcome = refl; memory = refl })

pub returns-in-Sfc : goal.returns-in-Sfc
unfolding exec panel_act
returns-in-Sfc c = rw (c.in-Sfc.is, c.test_overflow.ensures) (λ pages m. record { outcome = refl; memory = refl })

pub returns-in-Sfs : goal.returns-in-Sfs
unfolding exec panel_act
returns-in-Sfs c = rw (c.in-Sfs.is, c.test_overflow-in-Sfs.ensures) (λ pages m. record { outcome = refl; memory = refl })

pub returns-then-io : goal.returns-then-io
unfolding exec panel_act
returns-then-io c = rw (c.in-Lia.is, c.if-io.true) (λ pages m. record { outcome = refl; memory = refl })

pub returns-else-io : goal.returns-else-io
unfolding exec panel_act
returns-else-io c = rw (c.in-Lia.is, c.if-io.false, c.take_switches.ensures, c.register_of.ensures) (λ pages m. record { outcome = refl; memory = refl })

pub returns-then-io-2 : goal.returns-then-io-2
unfolding exec panel_act
returns-then-io-2 c = rw (c.in-Ota.is, c.if-io-2.true) (λ pages m. record { outcome = refl; memory = refl })

pub returns-else-io-2 : goal.returns-else-io-2
unfolding exec panel_act
returns-else-io-2 c = rw (c.in-Ota.is, c.if-io-2.false, c.put_lights.ensures, c.register_of-in-Ota.ensures) (λ pages m. record { outcome = refl; memory = refl })

pub returns-in-Hlt : goal.returns-in-Hlt
unfolding exec panel_act
returns-in-Hlt c =
    elim c.in-Hlt.is [
      | inl e ↦ rw e (λ pages m. record { outcome = refl; memory = refl })
      | inr f ↦ elim f [
        | inl e ↦ rw e (λ pages m. record { outcome = refl; memory = refl })
        | inr e ↦ rw e (λ pages m. record { outcome = refl; memory = refl })
      ]
    ]
