-- The words of the theorems.
--     Alike                 what is asked of two machines
--     Store, stored_by      stores, and what they leave of a memory
--     Within, SameStores    stores on pages open to storing; one list of them for two memories
--     Kept                  what then holds of the memories that they leave
--     Apart                 what then holds of their answers, stores and memories
--     OneList               one list of stores for every memory that agrees on the open pages
-- What is open to reading and to storing, and `Agree`, is in `Open` of the crate `maps`: over page registers and WMAP alone.
-- Assumes nothing.
use Rattle.std.specs.Prelude.{ℕ, ◌/◌, ◌≡◌, ◌⊎◌, true, List, [], ◌∷◌, length, get_or, set}
use Rattle.maps.specs.Pages.{protecting}
use Rattle.maps.specs.Open.{OpenToStore, Agree}
use Rattle.acts.specs.declared.record.Registers.{Registers}

-- equal registers and equal page registers, protection on, memories of one length that agree on every physical page some page
-- register of the three current maps leaves open to reading
pub record Alike (pages pages' : List ℕ) (r r' : Registers) (m m' : List ℕ) : Type 0 where
  pub registers : r ≡ r'
  pub maps : pages ≡ pages'
  pub protected : protecting r.wmap ≡ true
  pub opens : Agree pages r.wmap m m'

-- a word stored at a place of memory
pub record Store : Type 0 where
  pub index : ℕ
  pub word : ℕ

-- a memory after stores, one after another
unfoldable pub stored_by : List Store → List ℕ → List ℕ
stored_by [] m = m
stored_by (s ∷ later) m = stored_by later (set m s.index s.word)

-- every one on a page left open to storing
abbrev pub Within : List ℕ → ℕ → List Store → Type 0
Within pages wmap [] = Unit
Within pages wmap (s ∷ later) = OpenToStore pages wmap (s.index / 1024) × Within pages wmap later

-- one list of stores leads from m to n and from m' to n'
pub data SameStores (pages : List ℕ) (wmap : ℕ) (m m' n n' : List ℕ) : Type 0 where
  both_by : (stores : List Store) → Within pages wmap stores → n ≡ stored_by stores m → n' ≡ stored_by stores m'
      → SameStores pages wmap m m' n n'

-- from memories m and m' to memories n and n'
pub record Kept (pages : List ℕ) (wmap : ℕ) (m m' n n' : List ℕ) : Type 0 where
  pub size : length n ≡ length m
  -- the open pages still agree
  pub opens : Agree pages wmap n n'
  -- any other word is unchanged in both, or holds the same stored word in both
  pub others : (index : ℕ)
      → ((get_or n index 0 ≡ get_or m index 0) × (get_or n' index 0 ≡ get_or m' index 0)) ⊎ (get_or n index 0 ≡ get_or n' index 0)
  -- no word outside the pages left open to storing has changed
  pub closed : (index : ℕ) → (OpenToStore pages wmap (index / 1024) → ⊥)
      → (get_or n index 0 ≡ get_or m index 0) × (get_or n' index 0 ≡ get_or m' index 0)

-- x and x' are the answers of a step, or of a run
pub record Apart {X : Type 0} (pages : List ℕ) (wmap : ℕ) (m m' : List ℕ) (x x' : X) (n n' : List ℕ) : Type 0 where
  pub answers : x ≡ x'
  pub stores : SameStores pages wmap m m' n n'
  pub memories : Kept pages wmap m m' n n'

-- What a memory m' is left as depends on it only through one list of stores, the same for every m' that agrees with m on the
-- pages open to reading: which words are stored, and with what, a closed page has no part in.
pub data OneList (pages : List ℕ) (wmap : ℕ) (m : List ℕ) (leaves : List ℕ → List ℕ) : Type 0 where
  all_by : (stores : List Store) → Within pages wmap stores
      → ((m' : List ℕ) → Agree pages wmap m m' → leaves m' ≡ stored_by stores m') → OneList pages wmap m leaves
