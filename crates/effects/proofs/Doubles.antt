-- DST: two stores after the tests of both places.
--     kept                  a store at a place leaves as many words as it found
--     tested_store          the tests of a store, by its place
--     ends_both             `exec` of two stores whose places were reached
--     first_ends, second_ends    and where the first place or the second was not
-- Assumes nothing.
use Prim.Native.Nat.{ℕ}
use mathlib.Core.Path.{◌≡◌, refl, ◌∙◌}
use mathlib.Core.Bool.{Bool, true, false, cond}
use mathlib.Core.List.{List}
use lib.ListN.{length, length-set}
use Rattle.std.specs.Prelude.{Result, Ok, Err}
use Rattle.word.specs.Sums.{address}
use Rattle.maps.specs.Pages.{is_open, presence, spot, if_present, place}
use Rattle.maps.proofs.Laws.{place_by_tests}
use Rattle.maps.specs.declared.pages.Map.{Map}
use Rattle.maps.specs.declared.pages.Purpose.{Purpose}
use Rattle.maps.specs.declared.pages.Place.{Place}
use Rattle.maps.specs.declared.troubles.Trouble.{Trouble}
use Rattle.acts.specs.Record.{with_p, ahead}
use Rattle.acts.specs.Acts.{Act, Outcome, save, done, troubled, on_place, on_open, on_tested, exec, stopped, Performs, go_on}
use Rattle.acts.proofs.Operands.{stopping}
use Rattle.effects.specs.Ways.{storable, way_act}
use Rattle.effects.specs.Doubles.{registers_at, memory_at}
use Rattle.acts.specs.declared.record.Registers.{Registers}
use Rattle.acts.specs.declared.replies.Stop.{Stop}
use Rattle.effects.specs.declared.ways.Way.{Way}

pub kept : (p : Place) (v : ℕ) (m : List ℕ) → length (memory_at p v m) ≡ length m
kept Place.A v m = refl
kept Place.B v m = refl
kept (Place.Memory i) v m = length-set m i v

-- a test goes on, or ends
abbrev on_reached : Result Place Trouble → Outcome → Outcome
on_reached (Ok p) x = x
on_reached (Err t) x = troubled t

tests : (open? : Bool) (t : Result Unit Trouble) (p : Place) (x : Outcome)
    → on_open open? (on_tested t x) ≡ on_reached (cond open? (if_present t p) (Err Trouble.Closed)) x
tests false t p x = refl
tests true (Err t) p x = refl
tests true (Ok tt) p x = refl

-- the tests of a store, by its place
tested_store : (pages : List ℕ) (at : ℕ) (k : Act) (r : Registers) (m : List ℕ)
    → exec pages (storable at k) r m ≡ on_reached (place pages r.wmap Map.Execute Purpose.Store at (length m)) (exec pages k r m)
unfolding exec
tested_store pages at k r m =
    tests (is_open pages r.wmap Map.Execute Purpose.Store at) (presence pages r.wmap Map.Execute at (length m))
    (spot pages r.wmap Map.Execute at) (exec pages k r m)
    ∙ rw (place_by_tests pages r.wmap Map.Execute Purpose.Store at (length m))

module _ (a b to : ℕ) (r : Registers) (m : List ℕ) where
  two : (p q : Place)
      → on_place (Ok p) a (λ s n. on_place (Ok q) b (λ u k. done (with_p u to) k) s n) r m
      ≡ done (registers_at q b (registers_at p a (with_p r to))) (memory_at q b (memory_at p a m))
  two Place.A Place.A = refl
  two Place.A Place.B = refl
  two Place.A (Place.Memory j) = refl
  two Place.B Place.A = refl
  two Place.B Place.B = refl
  two Place.B (Place.Memory j) = refl
  two (Place.Memory i) Place.A = refl
  two (Place.Memory i) Place.B = refl
  two (Place.Memory i) (Place.Memory j) = refl

  inner : (pages : List ℕ) (next : ℕ) (p : Result Place Trouble)
      → on_place p a (λ s n. on_place (place pages s.wmap Map.Execute Purpose.Store next (length n)) b (λ u k. done (with_p u to) k) s n) r m
      ≡ on_place p a (λ s n. on_place (place pages r.wmap Map.Execute Purpose.Store next (length m)) b (λ u k. done (with_p u to) k) s n) r m
  inner pages next (Ok Place.A) = refl
  inner pages next (Ok Place.B) = refl
  inner pages next (Ok (Place.Memory i)) = rw (length-set m i a)
  inner pages next (Err t) = refl

  stored : (pages : List ℕ) (at next : ℕ)
      → exec pages (save Map.Execute at a (save Map.Execute next b (go_on to))) r m
      ≡ on_place (place pages r.wmap Map.Execute Purpose.Store at (length m)) a
      (λ s n. on_place (place pages r.wmap Map.Execute Purpose.Store next (length m)) b (λ u k. done (with_p u to) k) s n) r m
  unfolding exec
  stored pages at next = inner pages next (place pages r.wmap Map.Execute Purpose.Store at (length m))

  stored_both : (pages : List ℕ) (at next : ℕ) {p q : Place} → place pages r.wmap Map.Execute Purpose.Store at (length m) ≡ Ok p
      → place pages r.wmap Map.Execute Purpose.Store next (length m) ≡ Ok q
      → exec pages (storable at (storable next (save Map.Execute at a (save Map.Execute next b (go_on to))))) r m
      ≡ done (registers_at q b (registers_at p a (with_p r to))) (memory_at q b (memory_at p a m))
  stored_both pages at next {p = p} {q = q} e f =
      rw (tested_store, tested_store, stored pages at next, e, f) (two p q)

module _ (pages : List ℕ) (at next n : ℕ) (r : Registers) (m : List ℕ) {s : Result Registers Stop} (d : next ≡ address at 1) where
  pub ends_both : {p q : Place} {k : List ℕ} → place pages r.wmap Map.Execute Purpose.Store at (length m) ≡ Ok p
      → place pages r.wmap Map.Execute Purpose.Store next (length m) ≡ Ok q
      → s ≡ Ok (registers_at q r.b (registers_at p r.a (ahead n r))) → k ≡ memory_at q r.b (memory_at p r.a m)
      → Performs pages (way_act Way.StoreDouble r at n) r m s k
  ends_both e f g h =
      rw (← d, stored_both r.a r.b (address r.p n) r m pages at next e f) (record { outcome = g; memory = h })

  pub first_ends : {t : Trouble} → place pages r.wmap Map.Execute Purpose.Store at (length m) ≡ Err t
      → s ≡ Err (stopped t) → Performs pages (way_act Way.StoreDouble r at n) r m s m
  first_ends {t = t} e g = rw (tested_store, e) (stopping t g)

  pub second_ends : {p : Place} {t : Trouble} → place pages r.wmap Map.Execute Purpose.Store at (length m) ≡ Ok p
      → place pages r.wmap Map.Execute Purpose.Store next (length m) ≡ Err t
      → s ≡ Err (stopped t) → Performs pages (way_act Way.StoreDouble r at n) r m s m
  second_ends {t = t} e f g = rw (tested_store, e, ← d, tested_store, f) (stopping t g)
