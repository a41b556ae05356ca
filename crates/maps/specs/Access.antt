-- A word at a logical address.
--     held, fetched       what a place holds, and what a read answers
--     put, Stored         what a store leaves, and what it answers
-- Not here: where an address leads (`Pages`). A store to A or B changes a register, which is the upper layer's: the answer
-- says that the place is A or B. Assumes nothing.
use Rattle.std.specs.Prelude.{ℕ, ◌≡◌, List, length, get_or, set}
use Rattle.maps.specs.Pages.{place}
use Rattle.maps.specs.declared.pages.Map.{Map}
use Rattle.maps.specs.declared.pages.Purpose.{Purpose}
use Rattle.maps.specs.declared.pages.Place.{Place}
use Rattle.std.specs.Prelude.{Result, Ok, Err}
use Rattle.maps.specs.declared.troubles.Trouble.{Trouble}

-- `a` and `b` are the words that A and B hold
abbrev pub held : Result Place Trouble → List ℕ → ℕ → ℕ → Result ℕ Trouble
held (Ok Place.A) memory a b = Ok a
held (Ok Place.B) memory a b = Ok b
held (Ok (Place.Memory index)) memory a b = Ok (get_or memory index 0)
held (Err trouble) memory a b = Err trouble

unfoldable pub fetched : List ℕ → List ℕ → ℕ → Map → ℕ → ℕ → ℕ → Result ℕ Trouble
fetched pages memory wmap map address a b =
    held (place pages wmap map Purpose.Read address (length memory)) memory a b

-- memory after a store at a place: one word changed, or none (01, replies 1 and 4: "no memory word changed", "all as given")
abbrev pub put : Result Place Trouble → List ℕ → ℕ → List ℕ
put (Ok Place.A) memory value = memory
put (Ok Place.B) memory value = memory
put (Ok (Place.Memory index)) memory value = set memory index value
put (Err trouble) memory value = memory

pub record Stored (pages earlier : List ℕ) (wmap : ℕ) (map : Map) (address value : ℕ) (r : Result Place Trouble) (later : List ℕ) : Type 0 where
  pub outcome : r ≡ place pages wmap map Purpose.Store address (length earlier)
  pub memory : later ≡ put (place pages wmap map Purpose.Store address (length earlier)) earlier value
