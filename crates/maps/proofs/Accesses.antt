-- Accesses, their tests, words and chains: lemmas for `Laws` and the functions. No promise and no law names anything of it.
--     never                               two different answers are not equal
--     InMemory, in_memory                 how an access comes to a word of memory
--     or_true to whole                    what the laws need of the two tests
--     held_same to set_either             what they need of words
--     chased_ends to chased_all           how a chain goes on, and what then holds of it
-- Assumes nothing.
use Prim.Native.Nat.{ℕ, zero, suc, ◌<◌, ◌≤◌, ◌+◌, ◌-◌, ◌*◌, ◌%◌}
use native.Mathlib.Omega.{arith}
use mathlib.Core.Path.{◌≡◌, refl, ◌∙◌, ap}
use mathlib.Core.Logic.{◌⊎◌, inl, inr}
use mathlib.Core.Bool.{Bool, true, false, cond, not, ◌&&◌, ◌||◌}
use mathlib.Core.List.{List, [], ◌∷◌}
use lib.Dec.{eqb, ltb}
use lib.ListN.{length, get_or, set}
use borrow.Author.Tests.{ltb-true, ltb-false, lt-ltb, le-ltb}
use Rattle.word.specs.Words.{bit}
use Rattle.maps.specs.Pages.{physical_page, protecting, page_register, register_of, index_in, is_register, closed_to, is_open, presence, spot, if_present, place, Reached, number_place}
use Rattle.maps.specs.Troubles.{number_got, number_tested}
use Rattle.maps.specs.Access.{held}
use Rattle.maps.specs.Chains.{going_on, chased}
use Rattle.maps.specs.declared.pages.Map.{Map}
use Rattle.maps.specs.declared.pages.Purpose.{Purpose}
use Rattle.maps.specs.declared.pages.Place.{Place}
use Rattle.maps.specs.declared.troubles.Trouble.{Trouble}
use Rattle.std.specs.Prelude.{Result, Ok, Err}

pub never : {X : Type 0} → ◌≡◌ {A = ℕ} 0 1 → X
never e = absurd (omega arith)

pub record InMemory (pages : List ℕ) (wmap : ℕ) (map : Map) (purpose : Purpose) (address size index : ℕ) : Type 0 where
  pub allowed : protecting wmap && closed_to purpose (register_of pages wmap map address) ≡ false
  pub below : index < size
  pub leads : index_in (register_of pages wmap map address) address ≡ index

shape : (register first shut inside : Bool) (page i index : ℕ)
    → cond (register || not shut)
    (if_present (cond (register || inside) (Ok tt) (Err (Trouble.Absent page)))
    (cond register (cond first Place.A Place.B) (Place.Memory i))) (Err Trouble.Closed)
    ≡ Ok (Place.Memory index)
    → (shut ≡ false) × (inside ≡ true) × (i ≡ index)
shape true true shut inside page i index e = never (cc)
shape true false shut inside page i index e = never (cc)
shape false first true inside page i index e = never (cc)
shape false first false true page i index e = (refl, refl, cc)
shape false first false false page i index e = never (cc)

pub in_memory : (pages : List ℕ) (wmap : ℕ) (map : Map) (purpose : Purpose) (address size index : ℕ)
    → place pages wmap map purpose address size ≡ Ok (Place.Memory index)
    → InMemory pages wmap map purpose address size index
unfolding place is_open presence spot
in_memory pages wmap map purpose address size index e =
    let register = register_of pages wmap map address in
    let i = index_in register address in
    let h =
    shape (is_register map address) (eqb (address % 0o100000) 0) (protecting wmap && closed_to purpose register) (ltb i size) (physical_page register) i index e in
    record { allowed = h.0; below = rw h.2 at (ltb-true i size h.1); leads = h.2 }

pub or_true : (b : Bool) → (b || true) ≡ true
or_true true = refl
or_true false = refl

pub or_left : (b c : Bool) → (b || c) ≡ false → b ≡ false
or_left true c e = e
or_left false c e = refl

pub or_right : (b c : Bool) → (b || c) ≡ false → c ≡ false
or_right true c e = never (cc)
or_right false c e = e

pub and_left : (b c : Bool) → (b && c) ≡ true → b ≡ true
and_left true c e = refl
and_left false c e = e

pub and_right : (b c : Bool) → (b && c) ≡ true → c ≡ true
and_right true c e = e
and_right false c e = never (cc)

pub both_open : (register on reads stores : Bool)
    → (register || not (on && (reads || stores))) ≡ ((register || not (on && reads)) && (register || not (on && stores)))
both_open true on reads stores = refl
both_open false false reads stores = refl
both_open false true true stores = refl
both_open false true false stores = refl

-- by the three ways that the tests can go
pub number_of : (open? : Bool) (present : Result Unit Trouble) (reached : Place)
    → number_place (cond open? (if_present present reached) (Err Trouble.Closed)) ≡ cond open? (number_tested present) 1
number_of false present reached = refl
number_of true (Err trouble) reached = refl
number_of true (Ok tt) reached = refl

pub closed_by : (open? inside : Bool) (page : ℕ) (reached : Place)
    → cond open? (if_present (cond inside (Ok tt) (Err (Trouble.Absent page))) reached) (Err Trouble.Closed)
    ≡ Err Trouble.Closed
    → open? ≡ false
closed_by false inside page reached e = refl
closed_by true false page reached e = never (cc)
closed_by true true page reached e = never (cc)

pub reached_by : (open? : Bool) (present : Result Unit Trouble) (reached : Place) (p : Result Place Trouble)
    → cond open? (if_present present reached) (Err Trouble.Closed) ≡ p → Reached p
    → (open? ≡ true) × (present ≡ Ok tt)
reached_by true (Ok tt) reached p e r = (refl, refl)
reached_by false present reached (Ok q) e r = never (cc)
reached_by false present reached (Err trouble) e r = elim r [ ]
reached_by true (Err trouble) reached (Ok q) e r = never (cc)
reached_by true (Err trouble) reached (Err other) e r = elim r [ ]

pub absent_by : (open? : Bool) (present : Result Unit Trouble) (reached : Place) (page : ℕ)
    → cond open? (if_present present reached) (Err Trouble.Closed) ≡ Err (Trouble.Absent page) → present ≡ Err (Trouble.Absent page)
absent_by false present reached page e = never (cc)
absent_by true (Err trouble) reached page e = cc
absent_by true (Ok tt) reached page e = never (cc)

absent_page : (inside : Bool) (page other : ℕ)
    → ◌≡◌ {A = Result Unit Trouble} (cond inside (Ok tt) (Err (Trouble.Absent page))) (Err (Trouble.Absent other))
    → (inside ≡ false) × (page ≡ other)
absent_page true page other e = never (cc)
absent_page false page other e = (refl, cc)

pub beyond : (pages : List ℕ) (wmap : ℕ) (map : Map) (address size page : ℕ)
    → presence pages wmap map address size ≡ Err (Trouble.Absent page)
    → (physical_page (register_of pages wmap map address) ≡ page) × (size ≤ index_in (register_of pages wmap map address) address)
unfolding presence
beyond pages wmap map address size page e =
    let register = register_of pages wmap map address in
    let i = index_in register address in
    let h = absent_page (is_register map address || ltb i size) (physical_page register) page e in
    (h.1, ltb-false i size (or_right (is_register map address) (ltb i size) h.0))

-- an address counts by its 15 bits
pub fifteen_register : (map : Map) (address : ℕ) → is_register map (address % 0o100000) ≡ is_register map address
fifteen_register Map.Execute address = let e : address % 0o100000 % 0o100000 ≡ address % 0o100000 = omega arith in rw e
fifteen_register Map.Data1 address = refl
fifteen_register Map.Data2 address = refl

pub fifteen_page : (pages : List ℕ) (wmap : ℕ) (map : Map) (address : ℕ)
    → register_of pages wmap map (address % 0o100000) ≡ register_of pages wmap map address
fifteen_page pages wmap map address = ap (page_register pages wmap map) (omega arith)

-- in a memory of whole pages a page is present or absent as a whole
pub whole : (page offset size : ℕ) → size % 1024 ≡ 0 → offset < 1024 → ltb (page * 1024 + offset) size ≡ ltb (page * 1024) size
whole page offset size h l = go (ltb (page * 1024) size) refl
  where
    go : (t : Bool) → ltb (page * 1024) size ≡ t → ltb (page * 1024 + offset) size ≡ t
    go true e = lt-ltb (page * 1024 + offset) size (omega (arith, ltb-true (page * 1024) size e))
    go false e = le-ltb (page * 1024 + offset) size (omega (arith, ltb-false (page * 1024) size e))

pub held_same : (p : Result Place Trouble) (m n : List ℕ) (a b : ℕ)
    → ((index : ℕ) → p ≡ Ok (Place.Memory index) → get_or m index 0 ≡ get_or n index 0)
    → held p m a b ≡ held p n a b
held_same (Ok Place.A) m n a b h = refl
held_same (Ok Place.B) m n a b h = refl
held_same (Ok (Place.Memory index)) m n a b h = ap Ok (h index refl)
held_same (Err trouble) m n a b h = refl

pub held_word : (p : Result Place Trouble) (memory : List ℕ) (a b : ℕ) → Reached p → (word : ℕ) × (held p memory a b ≡ Ok word)
held_word (Ok Place.A) memory a b Reached.at_a = (a, refl)
held_word (Ok Place.B) memory a b Reached.at_b = (b, refl)
held_word (Ok (Place.Memory index)) memory a b Reached.at_word = (get_or memory index 0, refl)
held_word (Err trouble) memory a b r = elim r [ ]

pub held_ends : (p : Result Place Trouble) (memory : List ℕ) (a b : ℕ) (trouble : Trouble) → held p memory a b ≡ Err trouble → p ≡ Err trouble
held_ends (Ok Place.A) memory a b trouble e = never (cc)
held_ends (Ok Place.B) memory a b trouble e = never (cc)
held_ends (Ok (Place.Memory index)) memory a b trouble e = never (cc)
held_ends (Err other) memory a b trouble e = cc

pub held_number : (p : Result Place Trouble) (memory : List ℕ) (a b : ℕ) → number_got (held p memory a b) ≡ number_place p
held_number (Ok Place.A) memory a b = refl
held_number (Ok Place.B) memory a b = refl
held_number (Ok (Place.Memory index)) memory a b = refl
held_number (Err trouble) memory a b = refl

pub held_range : (p : Result Place Trouble) (memory : List ℕ) (a b word : ℕ)
    → ((index : ℕ) → get_or memory index 0 < 65536) → a < 65536 → b < 65536
    → held p memory a b ≡ Ok word → word < 65536
held_range (Ok Place.A) memory a b word h k l e = let q : a ≡ word = cc in omega arith
held_range (Ok Place.B) memory a b word h k l e = let q : b ≡ word = cc in omega arith
held_range (Ok (Place.Memory index)) memory a b word h k l e = let q : get_or memory index 0 ≡ word = cc in omega (arith, h index)
held_range (Err trouble) memory a b word h k l e = never (cc)

pub set_cases : (m : List ℕ) (i value index : ℕ)
    → (get_or (set m i value) index 0 ≡ get_or m index 0) ⊎ ((i ≡ index) × (get_or (set m i value) index 0 ≡ value))
set_cases [] i value index = inl refl
set_cases (x ∷ xs) zero value zero = inr (refl, refl)
set_cases (x ∷ xs) zero value (suc index) = inl refl
set_cases (x ∷ xs) (suc i) value zero = inl refl
set_cases (x ∷ xs) (suc i) value (suc index) = go (set_cases xs i value index)
  where
    go : (get_or (set xs i value) index 0 ≡ get_or xs index 0) ⊎ ((i ≡ index) × (get_or (set xs i value) index 0 ≡ value))
        → (get_or (set xs i value) index 0 ≡ get_or xs index 0) ⊎ ((suc i ≡ suc index) × (get_or (set xs i value) index 0 ≡ value))
    go (inl e) = inl e
    go (inr e) = inr (ap suc e.0, e.1)

pub set_either : (m n : List ℕ) (i value index : ℕ) → length m ≡ length n
    → ((get_or (set m i value) index 0 ≡ get_or m index 0) × (get_or (set n i value) index 0 ≡ get_or n index 0))
    ⊎ (get_or (set m i value) index 0 ≡ get_or (set n i value) index 0)
set_either [] [] i value index e = inl (refl, refl)
set_either [] (y ∷ ys) i value index e = absurd (omega arith)
set_either (x ∷ xs) [] i value index e = absurd (omega arith)
set_either (x ∷ xs) (y ∷ ys) zero value zero e = inr refl
set_either (x ∷ xs) (y ∷ ys) zero value (suc index) e = inl (refl, refl)
set_either (x ∷ xs) (y ∷ ys) (suc i) value zero e = inl (refl, refl)
set_either (x ∷ xs) (y ∷ ys) (suc i) value (suc index) e = set_either xs ys i value index (omega arith)

module _ (read : ℕ → Result ℕ Trouble) where
  pub chased_ends : (left word : ℕ) → bit 15 word ≡ false → chased read left word ≡ Ok (word % 0o100000)
  unfolding chased
  chased_ends zero word e = rw e
  chased_ends (suc left) word e = rw (e, chased)

  pub chased_out : (word : ℕ) → bit 15 word ≡ true → chased read 0 word ≡ Err Trouble.Endless
  unfolding chased
  chased_out word e = rw e

  pub chased_on : (left word : ℕ) → bit 15 word ≡ true → chased read (suc left) word ≡ going_on (read word) (chased read left)
  unfolding chased
  chased_on left word e = rw (e, chased)

  -- one word of a chain, of which `left` more may be read
  pub chased_stop : (left word : ℕ) (trouble : Trouble) → bit 15 word ≡ true → 0 < left → read word ≡ Err trouble → chased read left word ≡ Err trouble
  chased_stop zero word trouble h some e = absurd (omega arith)
  chased_stop (suc left) word trouble h some e = chased_on left word h ∙ rw e

  pub chased_next : (left word next : ℕ) → bit 15 word ≡ true → 0 < left → read word ≡ Ok next → chased read left word ≡ chased read (left - 1) next
  chased_next zero word next h some e = absurd (omega arith)
  chased_next (suc left) word next h some e = let n : suc left - 1 ≡ left = omega arith in chased_on left word h ∙ rw (e, n)

  -- a cell that names itself
  pub chased_itself : (left word : ℕ) → bit 15 word ≡ true → read word ≡ Ok word → chased read left word ≡ Err Trouble.Endless
  chased_itself zero word e f = chased_out word e
  chased_itself (suc left) word e f = chased_on left word e ∙ rw f (chased_itself left word e f)

-- what holds of each way to end holds of a chain
module _ (read : ℕ → Result ℕ Trouble) (P : Result ℕ Trouble → Type 0) (endless : P (Err Trouble.Endless))
    (address : (word : ℕ) → P (Ok (word % 0o100000)))
    (ends : (word : ℕ) (trouble : Trouble) → read word ≡ Err trouble → P (Err trouble)) where
  on : (word : ℕ) (f : Result ℕ Trouble) (from : ℕ → Result ℕ Trouble) → ((next : ℕ) → P (from next)) → read word ≡ f → P (going_on f from)
  on word (Ok next) from h e = h next
  on word (Err trouble) from h e = ends word trouble e

  pub chased_all : (left word : ℕ) → P (chased read left word)
  unfolding chased
  chased_all zero word = out (bit 15 word)
    where
      out : (asks : Bool) → P (cond asks (Err Trouble.Endless) (Ok (word % 0o100000)))
      out true = endless
      out false = address word
  chased_all (suc left) word = step (bit 15 word) (on word (read word) (chased read left) (chased_all left) refl)
    where
      step : (asks : Bool) → P (going_on (read word) (chased read left))
          → P (elim asks [ true ↦ going_on (read word) (chased read left) | false ↦ Ok (word % 0o100000) ])
      step true h = h
      step false h = address word
