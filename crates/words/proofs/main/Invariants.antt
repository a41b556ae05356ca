-- No more words are counted of a class than were read.
use Rattle.std.proofs.Common.{ℕ, ◌≤◌, get_or}
use Rattle.words.proofs.main.Given as goal

abbrev pub invariant-loop-word : goal.invariant-loop-word
invariant-loop-word l = (k : ℕ) → get_or l.counts k 0 ≤ l.word
