-- What is left of the number gets smaller.
use Rattle.list.proofs.text.+with_decimal.Given as goal

abbrev pub decreases-with_decimal : goal.decreases-with_decimal
decreases-with_decimal l = l.n
