-- What the functions of `src/codes.rt` promise each other; a reader may skip it.
--     Goes        a code with an address word goes this way there
-- Assumes nothing.
use Rattle.std.specs.Prelude.{ℕ, ◌≡◌, Option, Some, None}
use Rattle.maps.specs.declared.pages.Map.TheVariants.{Execute}
use Rattle.code.specs.Instructions.{reading}
use Rattle.acts.specs.declared.record.Registers.{Registers}
use Rattle.effects.specs.declared.ways.Way.TheVariants.{Take, Put}
use Rattle.rules.specs.Rules.{act, rule}
use Rattle.rules.specs.declared.actions.Operand.{Operand}
use Rattle.rules.specs.declared.actions.Action.{Action}
use Rattle.lane.specs.declared.codes.Asked.{Asked}

abbrev pub Goes : ℕ → Option Asked → Type 0
Goes word (Some (Asked.Take taking addressing)) = (r : Registers) → rule (reading word) r ≡ act (Action.At (Take taking Execute addressing) Operand.Next) r
Goes word (Some (Asked.Put source addressing)) = (r : Registers) → rule (reading word) r ≡ act (Action.At (Put source Execute addressing) Operand.Next) r
Goes word None = Unit
