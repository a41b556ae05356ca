-- DST's two places: what the functions of `src/ways.rt` promise each other. No rule cites this.
--     registers_at, memory_at    the registers and memory after a store at a place
-- Assumes nothing.
use Rattle.std.specs.Prelude.{ℕ, List, set}
use Rattle.maps.specs.declared.pages.Place.{Place}
use Rattle.acts.specs.Record.{with_a, with_b}
use Rattle.acts.specs.declared.record.Registers.{Registers}

abbrev pub registers_at : Place → ℕ → Registers → Registers
registers_at Place.A v r = with_a r v
registers_at Place.B v r = with_b r v
registers_at (Place.Memory i) v r = r

abbrev pub memory_at : Place → ℕ → List ℕ → List ℕ
memory_at Place.A v m = m
memory_at Place.B v m = m
memory_at (Place.Memory i) v m = set m i v
