use Prim.Native.Nat.{◌-◌, ◌≤◌}
use mathlib.Core.Path.{◌≡◌}
use mathlib.Core.Bool.{true}
use lib.ListN.{length}
use Rattle.machine.specs.Turns.{plus}
use Rattle.machine.specs.Step.{good_call, running}
use Rattle.machine.proofs.run.go.Given as goal

abbrev pub invariant-loop-count : goal.invariant-loop-count
invariant-loop-count l =
    (l.count ≤ l.budget) × (good_call (length l.pages) (length l.memory) l.s ≡ true)
    × (plus l.initial.count (running l.pages (l.budget - l.initial.count) l.initial.s l.initial.memory) ≡ plus l.count (running l.pages (l.budget - l.count) l.s l.memory)) × (length l.memory ≡ length l.initial.memory)

abbrev pub decreases-loop-count : goal.decreases-loop-count
decreases-loop-count l = l.budget - l.count
