-- `words::main` ends with no sum that wraps: one more word counted. Assumes nothing.
use Rattle.std.proofs.Common.{ℕ, ◌+◌, ◌≤◌, List, get_or, set, arith}
use Rattle.std.proofs.lemmas.Grind.{common_steps}
use Rattle.words.proofs.main.Goals as goal

counted : (counts : List ℕ) (i n : ℕ) → ((k : ℕ) → get_or counts k 0 ≤ n) → (k : ℕ) → get_or (set counts i (get_or counts i 0 + 1)) k 0 ≤ n + 1
counted counts i n h k = grind (arith, common_steps, h i, h k)

pub loop-word-preserved : goal.loop-word-preserved
loop-word-preserved c = counted c.loop-word.counts _ c.loop-word.word c.loop-word.invariant
