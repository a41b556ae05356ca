-- `actions::extended` meets its contract: each arm is the action that the definition has there, by what its calls ensure. Assumes nothing.
use Rattle.rules.proofs.actions.extended.Goals as goal

pub returns-in-Cross : goal.returns-in-Cross
returns-in-Cross c = rw (c.in-Cross.is, c.cross_way.ensures)

pub returns-in-Transfer : goal.returns-in-Transfer
returns-in-Transfer c = rw (c.in-Transfer.is, c.transfer.ensures)

pub returns-in-Indexing : goal.returns-in-Indexing
returns-in-Indexing c = rw (c.in-Indexing.is, c.indexing.ensures)

pub returns-in-Arithmetic : goal.returns-in-Arithmetic
returns-in-Arithmetic c = rw (c.in-Arithmetic.is, c.arithmetic_way.ensures)

pub returns-in-Bytes : goal.returns-in-Bytes
returns-in-Bytes c = rw (c.in-Bytes.is, c.bytes.ensures)

pub returns-in-Bits : goal.returns-in-Bits
returns-in-Bits c = rw c.in-Bits.is

pub returns-in-Words : goal.returns-in-Words
returns-in-Words c = rw (c.in-Words.is, c.words.ensures)
