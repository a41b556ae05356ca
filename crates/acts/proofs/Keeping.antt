-- What every ending of a program keeps holds of its result: an induction over programs, whatever rule they state.
--     Leads, Keeps                     a program that leads from what is asked of registers to something else, or keeps it
--     Carrying, Carries, exec_holds    what stores keep, and endings lead to, holds of the result
--     left_length, exec_length         so a program leaves as many words as it found
--     Fair, exec_fair                  and gives the result of no bad call
-- Assumes nothing.
use Prim.Native.Nat.{ℕ, ◌<◌}
use mathlib.Core.Path.{◌≡◌, refl, ◌∙◌}
use mathlib.Core.Bool.{Bool, true, false}
use mathlib.Core.List.{List}
use lib.ListN.{length, set, length-set}
use Rattle.maps.specs.Pages.{is_open, presence, place}
use Rattle.maps.specs.Access.{fetched}
use Rattle.maps.specs.Chains.{chain}
use Rattle.maps.proofs.Laws.{chain_address}
use Rattle.maps.specs.declared.pages.Purpose.{Purpose}
use Rattle.maps.specs.declared.pages.Place.{Place}
use Rattle.maps.specs.declared.troubles.Trouble.{Trouble}
use Rattle.acts.specs.Record.{with_a, with_b}
use Rattle.acts.specs.Acts.{Act, fin, stop, violate, load, save, follow, opened, present}
use Rattle.acts.specs.Acts.{Outcome, done, violated, refused, bad_call, troubled, on_got, on_place, on_open, on_tested, exec, left}
use Rattle.acts.specs.declared.record.Registers.{Registers}
use Rattle.acts.specs.declared.replies.Refusal.{Refusal}
use Rattle.std.specs.Prelude.{Result, Ok, Err}

-- with D of the registers while a program runs, every ending gives registers with A; a chain's address has 15 bits
abbrev pub Leads : (Registers → Type 0) → (Registers → Type 0) → Act → Type 0
Leads D A (fin f) = (s : Registers) → D s → A (f s)
Leads D A (stop refusal) = Unit
Leads D A violate = Unit
Leads D A (load map at k) = (w : ℕ) → Leads D A (k w)
Leads D A (save map at v k) = Leads D A k
Leads D A (follow word k) = (at : ℕ) → at < 0o100000 → Leads D A (k at)
Leads D A (opened map purpose at k) = Leads D A k
Leads D A (present map at k) = Leads D A k

-- every ending of a program keeps R
abbrev pub Keeps : (Registers → Type 0) → Act → Type 0
Keeps R act = Leads R R act

-- what stores keep, of registers and of memory, and what follows of the result
pub record Carrying (D A : Registers → Type 0) (M : List ℕ → Type 0) (P : Outcome → Type 0) : Type 0 where
  pub in_a : (r : Registers) (v : ℕ) → D r → D (with_a r v)
  pub in_b : (r : Registers) (v : ℕ) → D r → D (with_b r v)
  pub in_memory : (m : List ℕ) (i v : ℕ) → M m → M (set m i v)
  pub completion : (r : Registers) (m : List ℕ) → A r → M m → P (done r m)
  pub violation : P violated
  pub refusal : (refusal : Refusal) → P (refused refusal)

abbrev pub Carries : (Registers → Type 0) → (List ℕ → Type 0) → (Outcome → Type 0) → Type 0
Carries R M P = Carrying R R M P

module _ {D A : Registers → Type 0} {M : List ℕ → Type 0} {P : Outcome → Type 0} (h : Carrying D A M P) where
  at_trouble : (t : Trouble) → P (troubled t)
  at_trouble Trouble.Closed = h.violation
  at_trouble (Trouble.Absent page) = h.refusal _
  at_trouble Trouble.Endless = h.refusal _
  at_trouble Trouble.InRegisters = h.refusal _

  at_got : (x : Result ℕ Trouble) (k : ℕ → Outcome) → ((v : ℕ) → x ≡ Ok v → P (k v)) → P (on_got x k)
  at_got (Ok v) k on = on v refl
  at_got (Err t) k on = at_trouble t

  at_place : (x : Result Place Trouble) (v : ℕ) (k : Registers → List ℕ → Outcome) (r : Registers) (m : List ℕ)
      → ((s : Registers) (n : List ℕ) → D s → M n → P (k s n)) → D r → M m → P (on_place x v k r m)
  at_place (Ok Place.A) v k r m on p q = on (with_a r v) m (h.in_a r v p) q
  at_place (Ok Place.B) v k r m on p q = on (with_b r v) m (h.in_b r v p) q
  at_place (Ok (Place.Memory i)) v k r m on p q = on r (set m i v) p (h.in_memory m i v q)
  at_place (Err t) v k r m on p q = at_trouble t

  at_open : (b : Bool) (x : Outcome) → P x → P (on_open b x)
  at_open true x on = on
  at_open false x on = h.violation

  at_tested : (p : Result Unit Trouble) (x : Outcome) → P x → P (on_tested p x)
  at_tested (Ok tt) x on = on
  at_tested (Err t) x on = at_trouble t

  pub exec_holds : (pages : List ℕ) (act : Act) → Leads D A act → (r : Registers) (m : List ℕ) → D r → M m → P (exec pages act r m)
  unfolding exec
  exec_holds pages (fin f) e r m p q = h.completion (f r) m (e r p) q
  exec_holds pages (stop refusal) e r m p q = h.refusal refusal
  exec_holds pages violate e r m p q = h.violation
  exec_holds pages (load map at k) e r m p q =
      at_got (fetched pages m r.wmap map at r.a r.b) (λ w. exec pages (k w) r m) (λ w _. exec_holds pages (k w) (e w) r m p q)
  exec_holds pages (save map at v k) e r m p q =
      at_place (place pages r.wmap map Purpose.Store at (length m)) v (λ s n. exec pages k s n) r m (exec_holds pages k e) p q
  exec_holds pages (follow word k) e r m p q =
      at_got (chain pages m r.wmap word r.a r.b) (λ at. exec pages (k at) r m)
      (λ at c. exec_holds pages (k at) (e at (chain_address pages r.wmap m word r.a r.b at c)) r m p q)
  exec_holds pages (opened map purpose at k) e r m p q =
      at_open (is_open pages r.wmap map purpose at) (exec pages k r m) (exec_holds pages k e r m p q)
  exec_holds pages (present map at k) e r m p q =
      at_tested (presence pages r.wmap map at (length m)) (exec pages k r m) (exec_holds pages k e r m p q)

-- The length of memory.

-- where nothing is asked of registers, every program keeps it
keeps_none : (act : Act) → Keeps (λ _. Unit) act
keeps_none (fin f) = λ s _. tt
keeps_none (stop refusal) = tt
keeps_none violate = tt
keeps_none (load map at k) = λ w. keeps_none (k w)
keeps_none (save map at v k) = keeps_none k
keeps_none (follow word k) = λ at _. keeps_none (k at)
keeps_none (opened map purpose at k) = keeps_none k
keeps_none (present map at k) = keeps_none k

carries_length : (m : List ℕ) → Carries (λ _. Unit) (λ n. length n ≡ length m) (λ x. length (left m x) ≡ length m)
carries_length m =
    record {
      in_a = λ r v _. tt;
      in_b = λ r v _. tt;
      in_memory = λ n i v e. length-set n i v ∙ e;
      completion = λ r n _ e. e;
      violation = refl;
      refusal = λ _. refl;
    }

pub left_length : (pages : List ℕ) (act : Act) (r : Registers) (m : List ℕ) → length (left m (exec pages act r m)) ≡ length m
left_length pages act r m = exec_holds (carries_length m) pages act (keeps_none act) r m tt refl

pub exec_length : (pages : List ℕ) (act : Act) (r : Registers) (m : List ℕ) (s : Registers) (n : List ℕ)
    → exec pages act r m ≡ done s n → length n ≡ length m
exec_length pages act r m s n e = rw e at (left_length pages act r m)

-- The result of a program is no bad call.

abbrev pub Fair : Outcome → Type 0
Fair (done s m) = Unit
Fair violated = Unit
Fair (refused refusal) = Unit
Fair bad_call = ⊥

carries_fair : Carries (λ _. Unit) (λ _. Unit) Fair
carries_fair =
    record {
      in_a = λ r v _. tt;
      in_b = λ r v _. tt;
      in_memory = λ n i v _. tt;
      completion = λ r n _ _. tt;
      violation = tt;
      refusal = λ _. tt;
    }

pub exec_fair : (pages : List ℕ) (act : Act) (r : Registers) (m : List ℕ) → Fair (exec pages act r m)
exec_fair pages act r m = exec_holds carries_fair pages act (keeps_none act) r m tt tt
