-- 01, What a step replies: each case's number. Assumes nothing.
use Rattle.std.specs.Prelude.{ℕ}
use Rattle.acts.specs.declared.replies.Reply.{Reply}
use Rattle.acts.specs.declared.replies.Reply.TheVariants.{Completed, Violation, Refused, BadCall}
use Rattle.acts.specs.declared.replies.Refusal.TheVariants.{InputOutput, Endless, Absent, InRegisters, NotBuilt, TrapCell}

abbrev pub number : Reply → ℕ
number Completed = 0
number Violation = 1
number (Refused InputOutput) = 2
number (Refused Endless) = 3
number (Refused (Absent page)) = 4
number (Refused InRegisters) = 5
number (Refused NotBuilt) = 6
number (Refused TrapCell) = 7
number BadCall = 8
