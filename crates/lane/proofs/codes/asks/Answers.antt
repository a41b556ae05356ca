-- `codes::asks` meets its contract. Assumes nothing.
use Rattle.code.specs.declared.codes.Register.TheVariants.{A, B}
use Rattle.code.specs.declared.codes.Index.TheVariants.{X, Y}
use Rattle.code.specs.declared.codes.Arithmetic.TheVariants.{Mpy, Div}
use Rattle.code.specs.declared.codes.Transfer.TheVariants.{Sax, Lax}
use Rattle.code.specs.declared.codes.Indexing.TheVariants.{Stx, Ldx, Adx}
use Rattle.lane.proofs.Extended.{told, read_transfer, read_indexing, read_arithmetic}
use Rattle.lane.proofs.codes.asks.Goals as goal

pub returns-in-32896 : goal.returns-in-32896
returns-in-32896 c = λ r. told r _ c.in-32896.is (read_arithmetic Mpy)

pub returns-in-33024 : goal.returns-in-33024
returns-in-33024 c = λ r. told r _ c.in-33024.is (read_arithmetic Div)

pub returns-in-33760 : goal.returns-in-33760
returns-in-33760 c = λ r. told r _ c.in-33760.is (read_transfer Sax A X)

pub returns-in-33768 : goal.returns-in-33768
returns-in-33768 c = λ r. told r _ c.in-33768.is (read_transfer Sax A Y)

pub returns-in-35808 : goal.returns-in-35808
returns-in-35808 c = λ r. told r _ c.in-35808.is (read_transfer Sax B X)

pub returns-in-35816 : goal.returns-in-35816
returns-in-35816 c = λ r. told r _ c.in-35816.is (read_transfer Sax B Y)

pub returns-in-35811 : goal.returns-in-35811
returns-in-35811 c = λ r. told r _ c.in-35811.is (read_indexing Stx X)

pub returns-in-35819 : goal.returns-in-35819
returns-in-35819 c = λ r. told r _ c.in-35819.is (read_indexing Stx Y)

pub returns-in-33762 : goal.returns-in-33762
returns-in-33762 c = λ r. told r _ c.in-33762.is (read_transfer Lax A X)

pub returns-in-33770 : goal.returns-in-33770
returns-in-33770 c = λ r. told r _ c.in-33770.is (read_transfer Lax A Y)

pub returns-in-35810 : goal.returns-in-35810
returns-in-35810 c = λ r. told r _ c.in-35810.is (read_transfer Lax B X)

pub returns-in-35818 : goal.returns-in-35818
returns-in-35818 c = λ r. told r _ c.in-35818.is (read_transfer Lax B Y)

pub returns-in-35813 : goal.returns-in-35813
returns-in-35813 c = λ r. told r _ c.in-35813.is (read_indexing Ldx X)

pub returns-in-35821 : goal.returns-in-35821
returns-in-35821 c = λ r. told r _ c.in-35821.is (read_indexing Ldx Y)

pub returns-in-35814 : goal.returns-in-35814
returns-in-35814 c = λ r. told r _ c.in-35814.is (read_indexing Adx X)

pub returns-in-35822 : goal.returns-in-35822
returns-in-35822 c = λ r. told r _ c.in-35822.is (read_indexing Adx Y)
