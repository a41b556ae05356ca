-- A range tested page by page, and elements of memory copied to others, by their places in memory: what the functions of
-- `src/moves.rt` promise each other.
-- Words are counted by their index; bytes two to a word, the high one first. No rule cites this.
--     per_page, Stretch                the elements of a page; a stretch of elements on one page
--     Test, Answers                    a test of words, and what a function answers that makes it
--     first_trouble, ToldByPages       the first trouble that it meets in a range; a test that the last word on a page tells
--     InMemory, lead                   an element that an access reaches; the word there
--     place_in, index_of, places_in    places: of an address, a word, a memory
--     carried, copies                  one element copied; several, one after another
-- Assumes nothing.
use Rattle.std.specs.Prelude.{◌≡◌, ◌⊎◌, ℕ, zero, suc, ◌+◌, ◌*◌, ◌/◌, ◌%◌, ◌<◌, ◌≤◌, true, false, List, length, slice_index, slice_set, Result, Ok, Err}
use Rattle.word.specs.Words.{byte_of, with_byte}
use Rattle.maps.specs.Pages.{register_of, index_in, is_register, is_open, presence}
use Rattle.maps.specs.Bytes.{is_low_byte}
use Rattle.maps.specs.declared.pages.Map.{Map}
use Rattle.maps.specs.declared.pages.Purpose.{Purpose}
use Rattle.maps.specs.declared.troubles.Trouble.{Trouble}
use Rattle.strings.specs.Strings.{word_at, along}
use Rattle.strings.specs.declared.strings.Element.{Element}
use Rattle.strings.specs.declared.strings.Element.TheVariants.{Word, Byte}

abbrev pub per_page : Element → ℕ
per_page Word = 1024
per_page Byte = 2048

-- t of the elements left from an address on, all on its page
pub record Stretch (u : Element) (at left t : ℕ) : Type 0 where
  pub within : t ≤ left
  pub page : at % per_page u + t ≤ per_page u
  pub some : 0 < left → 0 < t

-- a test of words by their addresses, and what a function answers that makes it
abbrev pub Test : Type 0
Test = ℕ → Result Unit Trouble

abbrev pub Answers : Test → (ℕ → Result Unit Trouble → Type 0) → Type 0
Answers test answer = (x : ℕ) (y : Result Unit Trouble) → x < 65536 → answer x y → y ≡ test x

-- the first trouble that a test meets in a range
abbrev pub met_first : Result Unit Trouble → Result Unit Trouble → Result Unit Trouble
met_first (Ok tt) later = later
met_first (Err t) later = Err t

unfoldable pub first_trouble : Test → Element → ℕ → ℕ → Result Unit Trouble
first_trouble test u at zero = Ok tt
first_trouble test u at (suc n) = met_first (test (word_at u at)) (first_trouble test u (along u at 1) n)

-- on a page, a word passes a test, or meets the trouble that each later word there meets
pub record ToldByPages (test : Test) : Type 0 where
  pub told : (x y : ℕ) → x / 1024 % 32 ≡ y / 1024 % 32 → x % 1024 ≤ y % 1024 → (test x ≡ Ok tt) ⊎ (test x ≡ test y)

-- an element that an access reaches, and that is no register
pub record InMemory (pages : List ℕ) (wmap size : ℕ) (u : Element) (map : Map) (purpose : Purpose) (at : ℕ) : Type 0 where
  pub memory : is_register map (word_at u at) ≡ false
  pub allowed : is_open pages wmap map purpose (word_at u at) ≡ true
  pub there : presence pages wmap map (word_at u at) size ≡ Ok tt

-- the index of the word that an address leads to
abbrev pub lead : List ℕ → ℕ → Map → ℕ → ℕ
lead pages wmap map at = index_in (register_of pages wmap map at) at

-- the place of an element at an address, whose word has an index
abbrev pub place_in : Element → ℕ → ℕ → ℕ
place_in Word index at = index
place_in Byte index at = index * 2 + at % 2

-- the index of its word
abbrev pub index_of : Element → ℕ → ℕ
index_of Word i = i
index_of Byte i = i / 2

abbrev pub places_in : Element → List ℕ → ℕ
places_in Word m = length m
places_in Byte m = length m * 2

abbrev pub carried : Element → ℕ → ℕ → List ℕ → List ℕ
carried Word i j m = slice_set m j (slice_index m i)
carried Byte i j m = slice_set m (j / 2) (with_byte (is_low_byte j) (slice_index m (j / 2)) (byte_of (is_low_byte i) (slice_index m (i / 2))))

unfoldable pub copies : Element → ℕ → ℕ → ℕ → List ℕ → List ℕ
copies u i j zero m = m
copies u i j (suc n) m = copies u (i + 1) (j + 1) n (carried u i j m)
