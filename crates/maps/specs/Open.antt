-- What the three current maps leave open, over page registers and WMAP alone.
--     OpenTo, OpenToRead, OpenToStore    a physical page that is open to a purpose
--     Agree                              two memories that agree on every page open to reading
-- Whether protection is on is not asked here; the laws that rest on it say so (`place_open` of `Laws`).
-- Assumes nothing.
use Rattle.std.specs.Prelude.{ℕ, ◌<◌, ◌/◌, ◌≡◌, false, List, length, get_or}
use Rattle.maps.specs.Pages.{physical_page, page_register, closed_to}
use Rattle.maps.specs.declared.pages.Map.{Map}
use Rattle.maps.specs.declared.pages.Purpose.{Purpose}

-- some page register of the three current maps names the page and leaves it open
pub record OpenTo (purpose : Purpose) (pages : List ℕ) (wmap page : ℕ) : Type 0 where
  pub map : Map
  pub logical : ℕ
  pub within : logical < 32
  pub names : physical_page (page_register pages wmap map logical) ≡ page
  pub leaves : closed_to purpose (page_register pages wmap map logical) ≡ false

abbrev pub OpenToRead : List ℕ → ℕ → ℕ → Type 0
OpenToRead = OpenTo Purpose.Read

abbrev pub OpenToStore : List ℕ → ℕ → ℕ → Type 0
OpenToStore = OpenTo Purpose.Store

pub record Agree (pages : List ℕ) (wmap : ℕ) (m n : List ℕ) : Type 0 where
  pub lengths : length m ≡ length n
  pub words : (index : ℕ) → OpenToRead pages wmap (index / 1024) → get_or m index 0 ≡ get_or n index 0
