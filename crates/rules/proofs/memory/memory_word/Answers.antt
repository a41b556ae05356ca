-- `memory::memory_word` meets its contract: each arm answers as the definition does there, by what its calls ensure. Assumes nothing.
use native.Mathlib.Omega.{arith}
use Rattle.word.proofs.Weights.{weight_lt}
use Rattle.rules.proofs.memory.memory_word.Goals as goal

pub overflow_mul-result : goal.overflow_mul-result
overflow_mul-result c = rw c.weight_of.ensures (omega (arith, weight_lt c.args.indirect))

pub overflow_add-result : goal.overflow_add-result
overflow_add-result c = rw c.weight_of.ensures (omega (arith, weight_lt c.args.indirect))

pub overflow_add-result-then-current : goal.overflow_add-result-then-current
overflow_add-result-then-current c = rw c.weight_of.ensures (omega (arith, weight_lt c.args.indirect))

pub overflow_mul-result-else-current : goal.overflow_mul-result-else-current
overflow_mul-result-else-current c = rw c.weight_of-else-current.ensures (omega (arith, weight_lt c.args.indirect))

pub overflow_add-result-else-current : goal.overflow_add-result-else-current
overflow_add-result-else-current c = rw c.weight_of-else-current.ensures (omega (arith, weight_lt c.args.indirect))

pub returns-then-current : goal.returns-then-current
returns-then-current c = rw (c.if-current.true, c.weight_of.ensures)

pub returns-else-current : goal.returns-else-current
returns-else-current c = rw (c.if-current.false, c.weight_of-else-current.ensures) (omega arith)
