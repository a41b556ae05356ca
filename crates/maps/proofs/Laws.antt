-- What the layer promises upward: each law once, so that no upper proof opens a definition of this layer.
--     The paper's numbers        each tells the case of an answer
--     WMAP                       an interrupt ends protection
--     What a store leaves        one word changed, or none
--     The place of an access     its two tests decide it; after both succeed the access succeeds
--     Reading and storing        a read sees the word at its place, a store changes that word and no other
--     Pages left open            with protection on an access keeps to the pages left open to it
--     Chains                     where they end
--     Whole pages                a range is tested page by page
--     Ranges                     words, pages and addresses stay in their ranges
-- The definitions are in `Pages`, `Access`, `Chains` and `Open`. Lemmas that only the proofs need are in `Accesses`.
-- Assumes nothing.
use Prim.Native.Nat.{ℕ, ◌<◌, ◌≤◌, ◌+◌, ◌-◌, ◌*◌, ◌/◌, ◌%◌}
use native.Mathlib.Omega.{arith}
use mathlib.Core.Path.{◌≡◌, refl, sym, ◌∙◌, ap, fun_ext}
use mathlib.Core.Logic.{◌⊎◌, inl, inr, ⊎_elim}
use mathlib.Core.Bool.{Bool, true, false, cond, ◌&&◌, ◌||◌}
use mathlib.Core.List.{List}
use lib.Dec.{eqb, ltb}
use lib.ListN.{length, get_or, length-set}
use lib.Seq.{get_or-set_same}
use borrow.Author.Tests.{ne_eqb}
use Rattle.word.specs.Words.{bit}
use Rattle.maps.specs.Pages.{read_protected, protecting, switched, physical_page, page_register, register_of, index_in, is_register, is_open, presence, spot, if_present, place, Reached, number_place}
use Rattle.maps.specs.Troubles.{number_trouble, number_got, number_tested}
use Rattle.maps.specs.Access.{held, fetched, put}
use Rattle.maps.specs.Chains.{chased, execute_word, chain}
use Rattle.maps.specs.Open.{OpenTo, OpenToRead, OpenToStore, Agree}
use Rattle.maps.proofs.Accesses.{never, in_memory, or_true, or_left, or_right, and_left, and_right, both_open, number_of, closed_by, reached_by, absent_by, whole, beyond, fifteen_register, fifteen_page, held_same, held_word, held_ends, held_number, held_range, set_cases, set_either, chased_ends, chased_on, chased_itself, chased_all}
use Rattle.maps.specs.declared.pages.Map.{Map}
use Rattle.maps.specs.declared.pages.Purpose.{Purpose}
use Rattle.maps.specs.declared.pages.Place.{Place}
use Rattle.maps.specs.declared.troubles.Trouble.{Trouble}
use Rattle.std.specs.Prelude.{Result, Ok, Err}

---- The paper's numbers: each tells the case, and the case holds what else the answer says

pub trouble_told : (t : Trouble)
    → (number_trouble t ≡ 0 → ⊥)
    × (number_trouble t ≡ 1 → t ≡ Trouble.Closed)
    × (number_trouble t ≡ 3 → t ≡ Trouble.Endless)
    × (number_trouble t ≡ 4 → (page : ℕ) × (t ≡ Trouble.Absent page))
    × (number_trouble t ≡ 5 → t ≡ Trouble.InRegisters)
trouble_told Trouble.Closed = ((λ e. absurd (omega arith)), (λ e. refl), (λ e. absurd (omega arith)), (λ e. absurd (omega arith)), (λ e. absurd (omega arith)))
trouble_told Trouble.Endless = ((λ e. absurd (omega arith)), (λ e. absurd (omega arith)), (λ e. refl), (λ e. absurd (omega arith)), (λ e. absurd (omega arith)))
trouble_told (Trouble.Absent page) = ((λ e. absurd (omega arith)), (λ e. absurd (omega arith)), (λ e. absurd (omega arith)), (λ e. (page, refl)), (λ e. absurd (omega arith)))
trouble_told Trouble.InRegisters = ((λ e. absurd (omega arith)), (λ e. absurd (omega arith)), (λ e. absurd (omega arith)), (λ e. absurd (omega arith)), (λ e. refl))

-- 0 tells that nothing stands in the way, any other number which trouble does
pub place_told : (p : Result Place Trouble) → (number_place p ≡ 0 → Reached p) × ((t : Trouble) → p ≡ Err t → number_place p ≡ number_trouble t)
place_told (Ok Place.A) = ((λ e. Reached.at_a), (λ t e. ap number_place e))
place_told (Ok Place.B) = ((λ e. Reached.at_b), (λ t e. ap number_place e))
place_told (Ok (Place.Memory index)) = ((λ e. Reached.at_word), (λ t e. ap number_place e))
place_told (Err trouble) = ((λ e. absurd ((trouble_told trouble).0 e)), (λ t e. ap number_place e))

pub got_told : (g : Result ℕ Trouble) → number_got g ≡ 0 → (value : ℕ) × (g ≡ Ok value)
got_told (Ok value) e = (value, refl)
got_told (Err trouble) e = absurd ((trouble_told trouble).0 e)

pub tested_told : (t : Result Unit Trouble) → number_tested t ≡ 0 → t ≡ Ok tt
tested_told (Ok tt) e = refl
tested_told (Err trouble) e = absurd ((trouble_told trouble).0 e)

---- WMAP

-- an interrupt ends protection
pub switched_off : (wmap : ℕ) → protecting (switched wmap) ≡ false
switched_off wmap = ne_eqb (switched wmap / 0o100000 % 2) 1 (λ e. omega arith)

---- What a store leaves, at any place

pub put_length : (p : Result Place Trouble) (memory : List ℕ) (value : ℕ) → length (put p memory value) ≡ length memory
put_length (Ok Place.A) memory value = refl
put_length (Ok Place.B) memory value = refl
put_length (Ok (Place.Memory index)) memory value = simp length-set
put_length (Err trouble) memory value = refl

-- a word after a store is the word before it, or the value, at the place alone
pub put_cases : (p : Result Place Trouble) (memory : List ℕ) (value index : ℕ)
    → (get_or (put p memory value) index 0 ≡ get_or memory index 0)
    ⊎ ((p ≡ Ok (Place.Memory index)) × (get_or (put p memory value) index 0 ≡ value))
put_cases (Ok Place.A) memory value index = inl refl
put_cases (Ok Place.B) memory value index = inl refl
put_cases (Ok (Place.Memory i)) memory value index = ⊎_elim inl (λ w. inr (ap (λ (i : ℕ). Ok (Place.Memory i)) w.0, w.1)) (set_cases memory i value index)
put_cases (Err trouble) memory value index = inl refl

pub put_here : (memory : List ℕ) (value index : ℕ) → index < length memory → get_or (put (Ok (Place.Memory index)) memory value) index 0 ≡ value
put_here memory value index l = get_or-set_same memory index value 0 l

pub put_elsewhere : (p : Result Place Trouble) (memory : List ℕ) (value index : ℕ) → (p ≡ Ok (Place.Memory index) → ⊥)
    → get_or (put p memory value) index 0 ≡ get_or memory index 0
put_elsewhere p memory value index h = ⊎_elim (λ e. e) (λ w. absurd (h w.0)) (put_cases p memory value index)

-- one value stored at one place of two memories leaves a word unchanged in both, or the same in both
pub put_either : (p : Result Place Trouble) (m n : List ℕ) (value index : ℕ) → length m ≡ length n
    → ((get_or (put p m value) index 0 ≡ get_or m index 0) × (get_or (put p n value) index 0 ≡ get_or n index 0))
    ⊎ (get_or (put p m value) index 0 ≡ get_or (put p n value) index 0)
put_either (Ok Place.A) m n value index e = inl (refl, refl)
put_either (Ok Place.B) m n value index e = inl (refl, refl)
put_either (Ok (Place.Memory i)) m n value index e = set_either m n i value index e
put_either (Err trouble) m n value index e = inl (refl, refl)

-- memory as lent holds 16-bit words, and does after a store
abbrev pub Words : List ℕ → Type 0
Words memory = (index : ℕ) → get_or memory index 0 < 65536

pub put_words : (p : Result Place Trouble) (memory : List ℕ) (value : ℕ) → Words memory → value < 65536 → Words (put p memory value)
put_words p memory value h l index =
    ⊎_elim (λ e. omega (arith, h index)) (λ w. omega (arith, w.1)) (put_cases p memory value index)

module _ (pages : List ℕ) (wmap : ℕ) where
  ---- The place of an access: it depends on memory only through `size`, its length

  pub place_by_tests : (map : Map) (purpose : Purpose) (address size : ℕ)
      → place pages wmap map purpose address size
      ≡ cond (is_open pages wmap map purpose address) (if_present (presence pages wmap map address size) (spot pages wmap map address)) (Err Trouble.Closed)
  unfolding place
  place_by_tests map purpose address size = refl

  pub place_closed : (map : Map) (purpose : Purpose) (address size : ℕ)
      → is_open pages wmap map purpose address ≡ false
      → place pages wmap map purpose address size ≡ Err Trouble.Closed
  unfolding place
  place_closed map purpose address size e = rw e

  pub place_absent : (map : Map) (purpose : Purpose) (address size page : ℕ)
      → is_open pages wmap map purpose address ≡ true
      → presence pages wmap map address size ≡ Err (Trouble.Absent page)
      → place pages wmap map purpose address size ≡ Err (Trouble.Absent page)
  unfolding place
  place_absent map purpose address size page e f = rw (e, f)

  -- after the tests of an access succeed, the access succeeds
  pub place_reached : (map : Map) (purpose : Purpose) (address size : ℕ)
      → is_open pages wmap map purpose address ≡ true
      → presence pages wmap map address size ≡ Ok tt
      → place pages wmap map purpose address size ≡ Ok (spot pages wmap map address)
  unfolding place
  place_reached map purpose address size e f = rw (e, f)

  -- A, B or a word of memory
  pub spot_reached : (map : Map) (address : ℕ) → Reached (Ok (spot pages wmap map address))
  unfolding spot
  spot_reached map address = go (is_register map address) (eqb (address % 0o100000) 0)
    where
      go : (register first : Bool) → Reached (Ok (cond register (cond first Place.A Place.B) (Place.Memory (index_in (register_of pages wmap map address) address))))
      go true true = Reached.at_a
      go true false = Reached.at_b
      go false first = Reached.at_word

  pub spot_memory : (map : Map) (address : ℕ) → is_register map address ≡ false
      → (index : ℕ) × (spot pages wmap map address ≡ Place.Memory index)
  unfolding spot
  spot_memory map address e = (index_in (register_of pages wmap map address) address, rw e)

  pub place_below : (map : Map) (purpose : Purpose) (address size index : ℕ)
      → place pages wmap map purpose address size ≡ Ok (Place.Memory index) → index < size
  place_below map purpose address size index e = (in_memory pages wmap map purpose address size index e).below

  -- the paper's number goes by the two tests, protection first
  pub place_number : (map : Map) (purpose : Purpose) (address size : ℕ)
      → number_place (place pages wmap map purpose address size)
      ≡ cond (is_open pages wmap map purpose address) (number_tested (presence pages wmap map address size)) 1
  unfolding place
  place_number map purpose address size =
      number_of (is_open pages wmap map purpose address) (presence pages wmap map address size) (spot pages wmap map address)

  pub closed_place : (map : Map) (purpose : Purpose) (address size : ℕ)
      → place pages wmap map purpose address size ≡ Err Trouble.Closed
      → is_open pages wmap map purpose address ≡ false
  unfolding place presence
  closed_place map purpose address size e =
      let register = register_of pages wmap map address in
      closed_by (is_open pages wmap map purpose address) (is_register map address || ltb (index_in register address) size) (physical_page register)
      (spot pages wmap map address) e

  pub absent_place : (map : Map) (purpose : Purpose) (address size page : ℕ)
      → place pages wmap map purpose address size ≡ Err (Trouble.Absent page)
      → presence pages wmap map address size ≡ Err (Trouble.Absent page)
  unfolding place
  absent_place map purpose address size page e =
      absent_by (is_open pages wmap map purpose address) (presence pages wmap map address size) (spot pages wmap map address) page e

  pub reached_place : (map : Map) (purpose : Purpose) (address size : ℕ)
      → Reached (place pages wmap map purpose address size)
      → (is_open pages wmap map purpose address ≡ true) × (presence pages wmap map address size ≡ Ok tt)
  unfolding place
  reached_place map purpose address size r =
      reached_by (is_open pages wmap map purpose address) (presence pages wmap map address size) (spot pages wmap map address) _ refl r

  -- with protection off nothing is closed
  pub open_unprotected : (map : Map) (purpose : Purpose) (address : ℕ)
      → protecting wmap ≡ false → is_open pages wmap map purpose address ≡ true
  unfolding is_open
  open_unprotected map purpose address e = rw e (or_true (is_register map address))

  pub open_both : (map : Map) (address : ℕ)
      → is_open pages wmap map Purpose.Both address
      ≡ (is_open pages wmap map Purpose.Read address && is_open pages wmap map Purpose.Store address)
  unfolding is_open
  open_both map address = both_open (is_register map address) (protecting wmap) _ _

  -- a byte store reads and stores at one place
  pub place_both : (map : Map) (address size index : ℕ)
      → place pages wmap map Purpose.Both address size ≡ Ok (Place.Memory index)
      → (place pages wmap map Purpose.Read address size ≡ Ok (Place.Memory index))
      × (place pages wmap map Purpose.Store address size ≡ Ok (Place.Memory index))
  place_both map address size index e =
      let tests = reached_place map Purpose.Both address size (rw e Reached.at_word) in
      let reads = is_open pages wmap map Purpose.Read address in
      let stores = is_open pages wmap map Purpose.Store address in
      let both : (reads && stores) ≡ true = sym (open_both map address) ∙ tests.0 in
      let leads = sym (place_reached map Purpose.Both address size tests.0 tests.1) ∙ e in (
        place_reached map Purpose.Read address size (and_left reads stores both) tests.1 ∙ leads,
        place_reached map Purpose.Store address size (and_right reads stores both) tests.1 ∙ leads,
      )

  -- addresses 0 and 1 of the Execute map
  pub place_a : (purpose : Purpose) (address size : ℕ) → address % 0o100000 ≡ 0
      → place pages wmap Map.Execute purpose address size ≡ Ok Place.A
  unfolding place is_open presence spot
  place_a purpose address size e = rw e

  pub place_b : (purpose : Purpose) (address size : ℕ) → address % 0o100000 ≡ 1
      → place pages wmap Map.Execute purpose address size ≡ Ok Place.B
  unfolding place is_open presence spot
  place_b purpose address size e = rw e

  -- an address counts by its 15 bits
  pub open_fifteen : (map : Map) (purpose : Purpose) (address : ℕ)
      → is_open pages wmap map purpose (address % 0o100000) ≡ is_open pages wmap map purpose address
  unfolding is_open
  open_fifteen map purpose address = rw (fifteen_register map address, fifteen_page pages wmap map address)

  pub presence_fifteen : (map : Map) (address size : ℕ)
      → presence pages wmap map (address % 0o100000) size ≡ presence pages wmap map address size
  unfolding presence
  presence_fifteen map address size =
      let f : address % 0o100000 % 1024 ≡ address % 1024 = omega arith in
      rw (fifteen_register map address, fifteen_page pages wmap map address, f)

  pub place_fifteen : (map : Map) (purpose : Purpose) (address size : ℕ)
      → place pages wmap map purpose (address % 0o100000) size ≡ place pages wmap map purpose address size
  unfolding place is_open presence spot
  place_fifteen map purpose address size =
      let e : address % 0o100000 % 0o100000 ≡ address % 0o100000 = omega arith in
      let f : address % 0o100000 % 1024 ≡ address % 1024 = omega arith in
      rw (fifteen_register map address, fifteen_page pages wmap map address, e, f)

  ---- Reading and storing

  pub fetched_held : (memory : List ℕ) (map : Map) (address a b : ℕ)
      → fetched pages memory wmap map address a b
      ≡ held (place pages wmap map Purpose.Read address (length memory)) memory a b
  unfolding fetched
  fetched_held memory map address a b = refl

  pub fetched_fifteen : (memory : List ℕ) (map : Map) (address a b : ℕ)
      → fetched pages memory wmap map (address % 0o100000) a b ≡ fetched pages memory wmap map address a b
  unfolding fetched
  fetched_fifteen memory map address a b = rw (place_fifteen map Purpose.Read address (length memory))

  pub fetched_number : (memory : List ℕ) (map : Map) (address a b : ℕ)
      → number_got (fetched pages memory wmap map address a b)
      ≡ number_place (place pages wmap map Purpose.Read address (length memory))
  unfolding fetched
  fetched_number memory map address a b = held_number (place pages wmap map Purpose.Read address (length memory)) memory a b

  -- after the tests of a read succeed, it answers a word
  pub fetched_reached : (memory : List ℕ) (map : Map) (address a b : ℕ)
      → is_open pages wmap map Purpose.Read address ≡ true
      → presence pages wmap map address (length memory) ≡ Ok tt
      → (word : ℕ) × (fetched pages memory wmap map address a b ≡ Ok word)
  unfolding fetched
  fetched_reached memory map address a b e f =
      rw (place_reached map Purpose.Read address (length memory) e f)
      (held_word (Ok (spot pages wmap map address)) memory a b (spot_reached map address))

  -- a read depends only on the word at its place
  pub fetched_same : (m n : List ℕ) (map : Map) (address a b : ℕ) → length m ≡ length n
      → ((index : ℕ) → place pages wmap map Purpose.Read address (length m) ≡ Ok (Place.Memory index) → get_or m index 0 ≡ get_or n index 0)
      → fetched pages m wmap map address a b ≡ fetched pages n wmap map address a b
  unfolding fetched
  fetched_same m n map address a b e h =
      held_same (place pages wmap map Purpose.Read address (length m)) m n a b h
      ∙ ap (λ (size : ℕ). held (place pages wmap map Purpose.Read address size) n a b) e

  pub fetched_unprotected : (memory : List ℕ) (map : Map) (address a b : ℕ) → protecting wmap ≡ false
      → fetched pages memory wmap map address a b ≡ Err Trouble.Closed → ⊥
  unfolding fetched
  fetched_unprotected memory map address a b off e =
      let q = closed_place map Purpose.Read address (length memory) (held_ends (place pages wmap map Purpose.Read address (length memory)) memory a b Trouble.Closed e) in
      let r = open_unprotected map Purpose.Read address off in
      never (cc)

  -- two accesses that have one place see each other's stores, whatever maps and addresses led there
  pub store_seen : (memory : List ℕ) (map map' : Map) (purpose : Purpose) (address address' value a b index : ℕ)
      → place pages wmap map purpose address (length memory) ≡ Ok (Place.Memory index)
      → place pages wmap map' Purpose.Read address' (length memory) ≡ Ok (Place.Memory index)
      → fetched pages (put (place pages wmap map purpose address (length memory)) memory value) wmap map' address' a b
      ≡ Ok value
  unfolding fetched
  store_seen memory map map' purpose address address' value a b index e f =
      rw (e, length-set, f)
      (ap Ok (get_or-set_same memory index value 0 (place_below map' Purpose.Read address' (length memory) index f)))

  -- and two that have different places do not
  pub store_unseen : (memory : List ℕ) (map map' : Map) (purpose : Purpose) (address address' value a b : ℕ)
      → (place pages wmap map purpose address (length memory) ≡ place pages wmap map' Purpose.Read address' (length memory) → ⊥)
      → fetched pages (put (place pages wmap map purpose address (length memory)) memory value) wmap map' address' a b
      ≡ fetched pages memory wmap map' address' a b
  store_unseen memory map map' purpose address address' value a b h =
      let p = place pages wmap map purpose address (length memory) in
      sym
      (fetched_same memory (put p memory value) map' address' a b (sym (put_length p memory value))
      (λ index e. sym (put_elsewhere p memory value index (λ q. h (q ∙ sym e)))))

  -- a chain depends only on the words at the places that it can read
  pub chain_same : (m n : List ℕ) (word a b : ℕ) → length m ≡ length n
      → ((address index : ℕ) → place pages wmap Map.Execute Purpose.Read address (length m) ≡ Ok (Place.Memory index) → get_or m index 0 ≡ get_or n index 0)
      → chain pages m wmap word a b ≡ chain pages n wmap word a b
  unfolding chain
  chain_same m n word a b e h =
      ap (λ (read : ℕ → Result ℕ Trouble). chased read 32768 word) (fun_ext (λ address. fetched_same m n Map.Execute address a b e (h address)))

  ---- Pages left open

  -- with protection on, a place in memory lies on a page that some register of the three current maps leaves open
  pub place_open : (map : Map) (purpose : Purpose) (address size index : ℕ) → protecting wmap ≡ true
      → place pages wmap map purpose address size ≡ Ok (Place.Memory index)
      → OpenTo purpose pages wmap (index / 1024)
  place_open map purpose address size index on e =
      let h = in_memory pages wmap map purpose address size index e in
      record {
        map = map;
        logical = address / 1024 % 32;
        within = omega arith;
        names = omega (arith, h.leads);
        leaves = rw on at h.allowed;
      }

  -- so memories that agree on the pages left open to reading read alike
  pub fetched_agree : (m n : List ℕ) (map : Map) (address a b : ℕ) → protecting wmap ≡ true → Agree pages wmap m n
      → fetched pages m wmap map address a b ≡ fetched pages n wmap map address a b
  fetched_agree m n map address a b on agree =
      fetched_same m n map address a b agree.lengths
      (λ index e. agree.words index (place_open map Purpose.Read address (length m) index on e))

  pub chain_agree : (m n : List ℕ) (word a b : ℕ) → protecting wmap ≡ true → Agree pages wmap m n
      → chain pages m wmap word a b ≡ chain pages n wmap word a b
  chain_agree m n word a b on agree =
      chain_same m n word a b agree.lengths
      (λ address index e. agree.words index (place_open Map.Execute Purpose.Read address (length m) index on e))

  -- and go on agreeing when one value is stored at one place
  pub put_agree : (p : Result Place Trouble) (m n : List ℕ) (value : ℕ) → Agree pages wmap m n
      → Agree pages wmap (put p m value) (put p n value)
  put_agree p m n value agree =
      record {
        lengths = put_length p m value ∙ agree.lengths ∙ sym (put_length p n value);
        words = λ index o. ⊎_elim (λ w. w.0 ∙ agree.words index o ∙ sym w.1) (λ w. w) (put_either p m n value index agree.lengths);
      }

  -- a store changes no word outside the pages left open to it
  pub put_closed : (map : Map) (purpose : Purpose) (address value index : ℕ) (memory : List ℕ) → protecting wmap ≡ true
      → (OpenTo purpose pages wmap (index / 1024) → ⊥)
      → get_or (put (place pages wmap map purpose address (length memory)) memory value) index 0 ≡ get_or memory index 0
  put_closed map purpose address value index memory on h =
      put_elsewhere (place pages wmap map purpose address (length memory)) memory value index
      (λ e. h (place_open map purpose address (length memory) index on e))

  pub open_read : (page : ℕ) → OpenTo Purpose.Both pages wmap page → OpenToRead pages wmap page
  open_read page o = record { map = o.map; logical = o.logical; within = o.within; names = o.names; leaves = or_left (read_protected (page_register pages wmap o.map o.logical)) _ o.leaves }

  pub open_store : (page : ℕ) → OpenTo Purpose.Both pages wmap page → OpenToStore pages wmap page
  open_store page o = record { map = o.map; logical = o.logical; within = o.within; names = o.names; leaves = or_right (read_protected (page_register pages wmap o.map o.logical)) _ o.leaves }

  ---- Chains

  -- an address word whose bit 15 is clear is the address
  pub chain_direct : (memory : List ℕ) (word a b : ℕ) → bit 15 word ≡ false
      → chain pages memory wmap word a b ≡ Ok (word % 0o100000)
  unfolding chain
  chain_direct memory word a b e = chased_ends _ 32768 word e

  -- a chain of one level
  pub chain_once : (memory : List ℕ) (word next a b : ℕ) → bit 15 word ≡ true
      → fetched pages memory wmap Map.Execute word a b ≡ Ok next → bit 15 next ≡ false
      → chain pages memory wmap word a b ≡ Ok (next % 0o100000)
  unfolding chain
  chain_once memory word next a b e f g =
      chased_on (execute_word pages memory wmap a b) 32767 word e ∙ rw f (chased_ends (execute_word pages memory wmap a b) 32767 next g)

  -- a cell that names itself is endless
  pub chain_itself : (memory : List ℕ) (word a b : ℕ) → bit 15 word ≡ true
      → fetched pages memory wmap Map.Execute word a b ≡ Ok word
      → chain pages memory wmap word a b ≡ Err Trouble.Endless
  unfolding chain
  chain_itself memory word a b e f = chased_itself (execute_word pages memory wmap a b) 32768 word e f

  -- the paper's number: the chain ends (0) or is endless (3), or it is that of a word read in the Execute map
  pub chain_number : (memory : List ℕ) (word a b : ℕ)
      → (number_got (chain pages memory wmap word a b) ≡ 0)
      ⊎ ((number_got (chain pages memory wmap word a b) ≡ 3)
      ⊎ ((address : ℕ) × (number_got (chain pages memory wmap word a b) ≡ number_got (fetched pages memory wmap Map.Execute address a b))))
  unfolding chain
  chain_number memory word a b =
      chased_all (execute_word pages memory wmap a b)
      (λ c. (number_got c ≡ 0) ⊎ ((number_got c ≡ 3) ⊎ ((address : ℕ) × (number_got c ≡ number_got (fetched pages memory wmap Map.Execute address a b)))))
      (inr (inl refl)) (λ w. inl refl)
      (λ w trouble e. inr (inr (w, rw e)))
      32768 word

  pub chain_unprotected : (memory : List ℕ) (word a b : ℕ) → protecting wmap ≡ false
      → chain pages memory wmap word a b ≡ Err Trouble.Closed → ⊥
  unfolding chain
  chain_unprotected memory word a b off = chased_all (execute_word pages memory wmap a b) (λ c. c ≡ Err Trouble.Closed → ⊥)
      (λ e. never (cc)) (λ w e. never (cc))
      (λ w trouble e f. fetched_unprotected memory Map.Execute w a b off (e ∙ f)) 32768 word

  ---- Whole pages: a range is tested page by page

  module _ (map : Map) (x y : ℕ) (one : is_register map x ≡ false) (two : is_register map y ≡ false) (same : x / 1024 % 32 ≡ y / 1024 % 32) where
    pub open_by_page : (purpose : Purpose) → is_open pages wmap map purpose x ≡ is_open pages wmap map purpose y
    unfolding is_open
    open_by_page purpose = rw (one, two, same)

    pub presence_by_page : (size : ℕ) → size % 1024 ≡ 0 → presence pages wmap map x size ≡ presence pages wmap map y size
    unfolding presence
    presence_by_page size h =
        rw (one, two, same, whole (physical_page (register_of pages wmap map y)) (x % 1024) size h (omega arith), whole (physical_page (register_of pages wmap map y)) (y % 1024) size h (omega arith))

    pub spot_by_page : (index : ℕ) → spot pages wmap map x ≡ Place.Memory index → spot pages wmap map y ≡ Place.Memory (index - x % 1024 + y % 1024)
    unfolding spot
    spot_by_page index e =
        let f = rw one at e in
        let i : index_in (register_of pages wmap map x) x ≡ index = cc in
        rw (two, ← same) (ap Place.Memory (omega arith))

  ---- Ranges

  pub fetched_word : (memory : List ℕ) (map : Map) (address a b word : ℕ) → Words memory → a < 65536 → b < 65536
      → fetched pages memory wmap map address a b ≡ Ok word → word < 65536
  unfolding fetched
  fetched_word memory map address a b word h k l e = held_range (place pages wmap map Purpose.Read address (length memory)) memory a b word h k l e

  pub presence_page : (map : Map) (address size page : ℕ) → presence pages wmap map address size ≡ Err (Trouble.Absent page) → page < 16384
  presence_page map address size page e = omega (arith, beyond pages wmap map address size page e)

  pub place_page : (map : Map) (purpose : Purpose) (address size page : ℕ)
      → place pages wmap map purpose address size ≡ Err (Trouble.Absent page) → page < 16384
  place_page map purpose address size page e = presence_page map address size page (absent_place map purpose address size page e)

  pub fetched_page : (memory : List ℕ) (map : Map) (address a b page : ℕ)
      → fetched pages memory wmap map address a b ≡ Err (Trouble.Absent page) → page < 16384
  unfolding fetched
  fetched_page memory map address a b page e =
      place_page map Purpose.Read address (length memory) page
      (held_ends (place pages wmap map Purpose.Read address (length memory)) memory a b (Trouble.Absent page) e)

  -- an absent page lies beyond a memory of whole pages
  pub absent_beyond : (map : Map) (address size page : ℕ) → size % 1024 ≡ 0
      → presence pages wmap map address size ≡ Err (Trouble.Absent page) → size ≤ page * 1024
  absent_beyond map address size page h e = omega (arith, beyond pages wmap map address size page e)

  pub chain_address : (memory : List ℕ) (word a b address : ℕ) → chain pages memory wmap word a b ≡ Ok address → address < 32768
  unfolding chain
  chain_address memory word a b address =
      chased_all (execute_word pages memory wmap a b) (λ c. c ≡ Ok address → address < 32768)
      (λ e. never (cc)) (λ w e. let q : w % 0o100000 ≡ address = cc in omega arith) (λ w trouble _ e. never (cc))
      32768 word

  pub chain_page : (memory : List ℕ) (word a b page : ℕ) → chain pages memory wmap word a b ≡ Err (Trouble.Absent page) → page < 16384
  unfolding chain
  chain_page memory word a b page =
      chased_all (execute_word pages memory wmap a b) (λ c. c ≡ Err (Trouble.Absent page) → page < 16384)
      (λ e. never (cc)) (λ w e. never (cc)) (λ w trouble f e. fetched_page memory Map.Execute w a b page (f ∙ e))
      32768 word
