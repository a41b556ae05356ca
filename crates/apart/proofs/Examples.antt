-- The hypotheses can be met, and each is needed.
--     pages, program, memory, start     two pages of memory: a job runs on the first, the second is closed to reading and holds any x
--     agree, both, example              the memories of any x and y agree; the theorem applied to them
--     ended                             the run by computation: it stores, compares, counts and ends in a violation
--     closed_store, one_changes         its stores, for every x: where x is 5, the store on the closed page changes no word
--     one_alone                         a machine that leaves out a store by what a closed page holds is no OneList
--     unprotected to after_interrupt    where a hypothesis fails, two runs differ
-- Assumes nothing.
use Prim.Native.Nat.{ℕ, zero, suc, ◌<◌, ◌+◌, ◌*◌, ◌/◌}
use native.Mathlib.Omega.{arith}
use mathlib.Core.Path.{◌≡◌, refl, sym, ◌∙◌, ap}
use mathlib.Core.Logic.{⊎_elim}
use mathlib.Core.Bool.{false, cond}
use mathlib.Core.List.{List, [], ◌∷◌, ◌++◌}
use lib.Dec.{eqb}
use lib.ListN.{get_or, set, replicate, get_or-replicate, get_or-append}
use Rattle.word.specs.Sums.{sum}
use Rattle.maps.specs.Pages.{physical_page, read_protected, map_number, is_open, presence, spot, place}
use Rattle.maps.specs.Access.{fetched}
use Rattle.maps.specs.Chains.{chased, chain}
use Rattle.maps.specs.Open.{OpenToRead, Agree}
use Rattle.maps.specs.declared.pages.Map.{Map}
use Rattle.acts.specs.Record.{with_a, with_p, with_wmap, fresh, interrupted}
use Rattle.acts.specs.Acts.{exec}
use Rattle.rules.specs.Rules.{trap_rule}
use Rattle.code.specs.Instructions.{memory_reference, reading}
use Rattle.machine.specs.Step.{stepped, ending, running, ran}
use Rattle.acts.specs.declared.record.Registers.{Registers}
use Rattle.acts.specs.declared.replies.Reply.{Reply}
use Rattle.apart.specs.Alike.{Alike, Store, stored_by, Apart, OneList, all_by}
use Rattle.apart.proofs.Stores.{stores_kept}
use Rattle.apart.proofs.Apart.{run_apart}

-- register 1 of map 0 names the second page of memory, every other the first
abbrev pub pages : ℕ → List ℕ
pages second = 0 ∷ second ∷ replicate 1022 0

-- closed to reading and open to storing
abbrev shut : List ℕ
shut = pages 0o100001

-- LDA 100; STA 103,I; CPA 101; ISZ 102; LDB 104,I; at 7, the trap cell, JMP 6; and words 100 to 104, 102 being n
abbrev program : ℕ → List ℕ
program n =
    0 ∷ 0 ∷ 0o060100 ∷ 0o170103 ∷ 0o050101 ∷ 0o034102 ∷ 0o164104 ∷ 0o024006
    ∷ (replicate 56 0 ++ (5 ∷ 5 ∷ n ∷ 0o2000 ∷ 0o2001 ∷ replicate 955 0))

abbrev memory : ℕ → List ℕ
memory x = program 1 ++ replicate 1024 x

-- all three maps are map 0
abbrev pub start : ℕ → Registers
start wmap =
    with_wmap fresh wmap

abbrev protected : Registers
protected = start 0o100000

---- The hypotheses can be met

named : (n : ℕ) → n < 32 → read_protected (get_or shut n 0) ≡ false → physical_page (get_or shut n 0) ≡ 0
named zero l e = refl
named (suc zero) l e = let z : ◌≡◌ {A = ℕ} 0 1 = cc in absurd (omega arith)
named (suc (suc n)) l e = rw (get_or-replicate {A = ℕ} 1022 n 0 0 (omega arith))

module _ (wmap : ℕ) (zeros : (map : Map) → map_number map wmap ≡ 0) where
  only_first : (page : ℕ) → OpenToRead shut wmap page → page ≡ 0
  only_first page o =
      let e : map_number o.map wmap * 32 + o.logical ≡ o.logical = rw (zeros o.map) (omega arith) in
      sym (rw e at o.names) ∙ named o.logical o.within (rw e at o.leaves)

  -- only words of the second page differ
  agree : (x y : ℕ) → Agree shut wmap (memory x) (memory y)
  agree x y =
      record {
        lengths = refl;
        words = λ index o.
            let f = only_first (index / 1024) o in
            get_or-append (program 1) (replicate 1024 x) 0 index (omega arith)
            ∙ sym (get_or-append (program 1) (replicate 1024 y) 0 index (omega arith));
      }

zeros_on : (map : Map) → map_number map 0o100000 ≡ 0
zeros_on Map.Execute = refl
zeros_on Map.Data1 = refl
zeros_on Map.Data2 = refl

zeros_off : (map : Map) → map_number map 0 ≡ 0
zeros_off Map.Execute = refl
zeros_off Map.Data1 = refl
zeros_off Map.Data2 = refl

pub both : (x y : ℕ) → Alike shut shut protected protected (memory x) (memory y)
both x y = record { registers = refl; maps = refl; protected = refl; opens = agree 0o100000 zeros_on x y }

pub example : (x y budget : ℕ) → Apart shut 0o100000 (memory x) (memory y)
    (ran shut budget protected (memory x)).ran (ran shut budget protected (memory y)).ran
    (ran shut budget protected (memory x)).memory (ran shut budget protected (memory y)).memory
example x y budget = run_apart shut shut protected protected (memory x) (memory y) (both x y) budget

-- the same word is stored on the closed page in both, and the violation is at 6
pub ended : (x : ℕ) → ran shut 10 protected (memory x)
    ≡ ending Reply.Violation 5 (interrupted (with_p (with_a protected 5) 6)) (program 2 ++ (5 ∷ replicate 1023 x))
unfolding ran running stepped exec reading memory_reference fetched chain chased place is_open presence spot sum
ended x = refl

-- the stores of that run, the same for every x
abbrev stores : List Store
stores = record { index = 0o2000; word = 5 } ∷ record { index = 0o102; word = 2 } ∷ []

pub closed_store : (x : ℕ) → (ran shut 10 protected (memory x)).memory ≡ stored_by stores (memory x)
unfolding ran running stepped exec reading memory_reference fetched chain chased place is_open presence spot sum stored_by
closed_store x = refl

-- one machine finds on the closed page what is stored there, and another word changes in the other
pub one_changes : ((ran shut 10 protected (memory 5)).memory ≡ set (memory 5) 0o102 2)
    × (get_or (ran shut 10 protected (memory 7)).memory 0o2000 0 ≡ 5)
unfolding ran running stepped exec reading memory_reference fetched chain chased place is_open presence spot sum
one_changes = (refl, refl)

-- Stores 5 on the closed page unless it finds 7 there: two such memories can end alike, and no list of stores serves every one.
abbrev unless_seven : List ℕ → List ℕ
unless_seven m = cond (eqb (get_or m 0o2000 0) 7) m (set m 0o2000 5)

pub one_alone : OneList shut 0o100000 (memory 0) unless_seven → ⊥
one_alone (all_by l h f) =
    let here = f (memory 0) (agree 0o100000 zeros_on 0 0) in
    let there = f (memory 7) (agree 0o100000 zeros_on 0 7) in
    let kept = stores_kept shut 0o100000 l (memory 0) (memory 7) h (agree 0o100000 zeros_on 0 7) in
    ⊎_elim
    (λ w. let z : ◌≡◌ {A = ℕ} 5 0 = ap (λ (m : List ℕ). get_or m 0o2000 0) here ∙ w.0 in omega arith)
    (λ e. let z : ◌≡◌ {A = ℕ} 5 7 = ap (λ (m : List ℕ). get_or m 0o2000 0) here ∙ e ∙ sym (ap (λ (m : List ℕ). get_or m 0o2000 0) there) in omega arith)
    (kept.others 0o2000)

---- Each is needed

-- protection off: the memories agree, and B ends with what the closed page holds
pub unprotected : (x y : ℕ) → Agree shut 0 (memory x) (memory y) × ((ran shut 5 (start 0) (memory x)).ran.registers.b ≡ x)
unfolding ran running stepped exec reading memory_reference fetched chain chased place is_open presence spot sum
unprotected x y = (agree 0 zeros_off x y, refl)

-- a page open to reading that differs
pub open_differs : (x : ℕ) → (ran (pages 1) 5 protected (memory x)).ran.registers.b ≡ x
unfolding ran running stepped exec reading memory_reference fetched chain chased place is_open presence spot sum
open_differs x = refl

-- another page register, over one memory
pub another_register : (x : ℕ)
    → ((ran shut 5 protected (memory x)).ran.reply ≡ Reply.Violation) × ((ran (pages 1) 5 protected (memory x)).ran.reply ≡ Reply.Completed)
unfolding ran running stepped exec reading memory_reference fetched chain chased place is_open presence spot sum
another_register x = (refl, refl)

-- A trap that waits: with protection on the call is bad. It waits with protection off, as the run `ended` left it: two steps
-- more, and B holds what the closed page holds.
pub after_interrupt : (x : ℕ)
    → (ran shut 2 (interrupted (with_p (with_a protected 5) 6)) (program 2 ++ (5 ∷ replicate 1023 x))).ran.registers.b ≡ x
unfolding ran running stepped exec trap_rule reading memory_reference fetched chain chased place is_open presence spot sum
after_interrupt x = refl
