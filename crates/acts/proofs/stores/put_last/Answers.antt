-- `stores::put_last` meets its contract: by the place that the store reached. Assumes nothing.
use Rattle.std.proofs.Common.{refl}
use Rattle.acts.specs.Acts.{exec}
use Rattle.acts.proofs.Operands.{stopping, by_question}
use Rattle.acts.proofs.stores.put_last.Goals as goal

pub returns-in-A : goal.returns-in-A
unfolding exec
returns-in-A c = rw (c.store.ensures.memory, ← c.store.ensures.outcome, c.in_ok-store.was, c.in-A.is, c.with_register.ensures) (record { outcome = refl; memory = refl })

pub returns-in-B : goal.returns-in-B
unfolding exec
returns-in-B c = rw (c.store.ensures.memory, ← c.store.ensures.outcome, c.in_ok-store.was, c.in-B.is, c.with_register-in-B.ensures) (record { outcome = refl; memory = refl })

pub returns-in-Memory : goal.returns-in-Memory
unfolding exec
returns-in-Memory c = rw (c.store.ensures.memory, ← c.store.ensures.outcome, c.in_ok-store.was, c.in-Memory.is) (record { outcome = refl; memory = refl })

pub returns-in_err-store : goal.returns-in_err-store
unfolding exec
returns-in_err-store c =
    rw (c.store.ensures.memory, ← c.store.ensures.outcome, c.in_err-store.was)
    (stopping c.in_err-store.field-0.0 (by_question _ _ c.from_residual.ensures.1))
