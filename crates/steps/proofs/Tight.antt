-- The promise of `fetch` fixes its outcome: two outcomes that satisfy its own contract, as its `Reads` has it, are equal.
-- Assumes nothing.
use Rattle.acts.proofs.Tight.{OneMemory, ends_tight}
use Rattle.steps.proofs.perform.fetch.Kinds as fetch
use Rattle.steps.proofs.perform.fetch.Reads as fetch_reads

pub fetch_tight : OneMemory 2 fetch.ps fetch.r fetch_reads.Post (λ κs s. s.1.1.0.now)
fetch_tight κs a x y s t p q = ends_tight p q
