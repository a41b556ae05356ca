-- What ends a step that met trouble: the paper's numbers. Assumes nothing.
use Rattle.std.specs.Prelude.{ℕ}
use Rattle.maps.specs.declared.troubles.Trouble.{Trouble}
use Rattle.maps.specs.declared.troubles.Trouble.TheVariants.{Closed, Absent, Endless, InRegisters}
use Rattle.std.specs.Prelude.{Result, Ok, Err}

-- 01, What a step replies: 1 "a violation was met", 3 "an indirect chain never ends", 4 "a physical page beyond the lent memory is
-- accessed", 5 "a byte or word .. lies in word 0 or 1 of the Execute map"
abbrev pub number_trouble : Trouble → ℕ
number_trouble Closed = 1
number_trouble Endless = 3
number_trouble (Absent page) = 4
number_trouble InRegisters = 5

-- 0: nothing stands in the way
abbrev pub number_got : Result ℕ Trouble → ℕ
number_got (Ok value) = 0
number_got (Err trouble) = number_trouble trouble

abbrev pub number_tested : Result Unit Trouble → ℕ
number_tested (Ok tt) = 0
number_tested (Err trouble) = number_trouble trouble
