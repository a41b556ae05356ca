-- `lane::references::reach` meets its contract. Assumes nothing.
use Prim.Native.Nat.{ℕ, ◌<◌, ◌%◌}
use mathlib.Core.Path.{sym, subst}
use Rattle.word.specs.Words.{bit}
use Rattle.lane.proofs.Ways.{clear, near, direct}
use Rattle.lane.proofs.references.reach.Goals as goal

pub returns-then-word-lt32768 : goal.returns-then-word-lt32768
returns-then-word-lt32768 c = rw (clear _ c.if-word-lt32768.true, ← c.memory_word.ensures) (direct c.args.pages.now c.args.memory.now c.args.r c.memory_word.result (subst (λ (k : ℕ). k < 0o100000) (sym c.memory_word.ensures) (near (bit 10 c.args.word) (c.args.word % 0o2000) c.args.r.p)))
