-- What one step of a run promises to the run; a reader may skip it.
--     plus        a run, with steps counted before
--     ended_by    how a run ends with a step that stopped
--     Turned      the step replied 0, or the run ends with it: whatever the budget that was left
-- Assumes nothing.
use Rattle.std.specs.Prelude.{ℕ, suc, ◌+◌, ◌≤◌, ◌≡◌, true, List, eqb, length, Result, Ok, Err}
use Rattle.acts.specs.declared.record.Registers.{Registers}
use Rattle.machine.specs.Step.{good_call, Leaves, ending, counting, running}
use Rattle.word.specs.Words.{weight}
use Rattle.acts.specs.Replies.{number}
use Rattle.acts.specs.Acts.{settled}
use Rattle.acts.specs.declared.replies.Stop.{Stop}
use Rattle.acts.specs.declared.replies.Stepped.{Stepped}
use Rattle.acts.specs.declared.replies.Ran.{Ran}

abbrev pub plus : ℕ → Leaves → Leaves
plus n l = ending l.ran.reply (n + l.ran.count) l.ran.registers l.memory

-- how a run ends with a step that stopped
abbrev pub ended_by : Stop → Registers → Ran
ended_by stop r =
    let t : Stepped = settled r (Err stop) in
    record { reply = t.reply; count = weight (eqb (number t.reply) 1); registers = t.registers }

abbrev pub Turned : List ℕ → Registers → List ℕ → Result Registers Ran → List ℕ → Type 0
Turned pages r m (Ok s) n =
    (good_call (length pages) (length n) s ≡ true) × ((left : ℕ) → running pages (suc left) r m ≡ counting (running pages left s n))
Turned pages r m (Err x) n = (x.count ≤ 1) × ((left : ℕ) → running pages (suc left) r m ≡ record { ran = x; memory = n })
