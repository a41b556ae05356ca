-- How a program goes on past its reading parts, and past a store that is its last act: what the proofs of the functions cite.
--     reads, chases                 what a read and a chain give to a program
--     had_value to had_stop         `exec` of a part, by what a function gave
--     direct                        an address word with bit 15 clear is the address
--     Leads, by_chain, by_itself    where an address word leads: by a chain, or it is the address
--     settled_given                 what an instruction gives has the answer that its outcome has
--     by_question                   what leaves a function by `?`
--     finishing to violating        how a program ends that has no access left
--     stopping                      trouble stops an instruction, and leaves the memory
--     saved                         a store, by its place
--     ends_last                     what follows a last store may come before it, where the store does not see it
-- Assumes nothing.
use Prim.Native.Nat.{ℕ, ◌/◌, ◌%◌, ◌<◌}
use native.Mathlib.Omega.{arith}
use native.Mathlib.Nat.{mod-eq_of_lt}
use mathlib.Core.Path.{◌≡◌, refl, sym, ◌∙◌, ap}
use mathlib.Core.Bool.{false}
use mathlib.Core.List.{List}
use lib.ListN.{length}
use borrow.Author.Tests.{ne_eqb}
use Rattle.word.specs.Words.{bit}
use Rattle.maps.specs.Pages.{place}
use Rattle.maps.specs.Access.{fetched}
use Rattle.maps.specs.Chains.{chain}
use Rattle.maps.proofs.Laws.{chain_direct}
use Rattle.maps.specs.declared.pages.Map.{Map}
use Rattle.maps.specs.declared.pages.Purpose.{Purpose}
use Rattle.maps.specs.declared.pages.Place.{Place}
use Rattle.acts.specs.Record.{with_a, with_b}
use Rattle.std.specs.Result.{IsErrAnd}
use Rattle.std.proofs.lemmas.Result.{err_from_is_err_and}
use Rattle.acts.specs.declared.replies.Refusal.{Refusal}
use Rattle.acts.specs.Acts.{Act, fin, stop, violate, load, save, follow, Outcome, done, violated, refused, bad_call, on_place, exec, answer, left, stopped, given, settled, Ends, Performs, troubled, Gives}
use Rattle.acts.specs.declared.replies.Stop.{Stop}
use Rattle.acts.specs.declared.record.Registers.{Registers}
use Rattle.maps.specs.declared.troubles.Trouble.{Trouble}
use Rattle.std.specs.Prelude.{Result, Ok, Err}

stays : (m : List ℕ) (t : Trouble) → m ≡ left m (troubled t)
stays m Trouble.Closed = refl
stays m Trouble.Endless = refl
stays m (Trouble.Absent page) = refl
stays m Trouble.InRegisters = refl

stops : (t : Trouble) → ◌≡◌ {A = Result Registers Stop} (Err (stopped t)) (given (troubled t))
stops Trouble.Closed = refl
stops Trouble.Endless = refl
stops (Trouble.Absent page) = refl
stops Trouble.InRegisters = refl

-- what an instruction gives has the answer that its outcome has
pub settled_given : (r : Registers) (x : Outcome) → settled r (given x) ≡ answer r x
settled_given r (done s m) = refl
settled_given r violated = refl
settled_given r (refused refusal) = refl
settled_given r bad_call = refl

pub stopping : {m : List ℕ} (t : Trouble) {s : Result Registers Stop} → s ≡ Err (stopped t) → Ends m (troubled t) s m
stopping {m = m} t e = record { outcome = e ∙ stops t; memory = stays m t }

-- what leaves a function by `?`
pub by_question : (s : Result Registers Stop) (t : Trouble) → IsErrAnd s (λ x. x ≡ stopped t) → s ≡ Err (stopped t)
by_question s t h = let p = err_from_is_err_and s h in p.1 ∙ ap Err p.2

-- how a program ends that has no access left
module _ (pages : List ℕ) (r : Registers) (m : List ℕ) where
  pub finishing : (f : Registers → Registers) {s : Result Registers Stop} → s ≡ Ok (f r) → Performs pages (fin f) r m s m
  unfolding exec
  finishing f e = record { outcome = e; memory = refl }

  pub refusing : (refusal : Refusal) {s : Result Registers Stop} → s ≡ Err (Stop.Refused refusal) → Performs pages (stop refusal) r m s m
  unfolding exec
  refusing refusal e = record { outcome = e; memory = refl }

  pub violating : {s : Result Registers Stop} → s ≡ Err Stop.Violation → Performs pages violate r m s m
  unfolding exec
  violating e = record { outcome = e; memory = refl }

-- what the two reading functions of `maps` promise
module _ {pages : List ℕ} {r : Registers} {m : List ℕ} {g : Result ℕ Trouble} where
  pub reads : {map : Map} {at : ℕ} → g ≡ fetched pages m r.wmap map at r.a r.b → Gives pages (load map at) r m g
  unfolding exec
  reads e = record { goes = λ k. rw e refl }

  pub chases : {word : ℕ} → g ≡ chain pages m r.wmap word r.a r.b → Gives pages (follow word) r m g
  unfolding exec
  chases e = record { goes = λ k. rw e refl }

module _ {pages : List ℕ} {part : (ℕ → Act) → Act} {r : Registers} {m : List ℕ} {g : Result ℕ Trouble} (h : Gives pages part r m g) where
  pub had_value : {v : ℕ} → g ≡ Ok v → (k : ℕ → Act) → exec pages (part k) r m ≡ exec pages (k v) r m
  had_value e k = rw e at (h.goes k)

  pub had_on : {v : ℕ} {s : Result Registers Stop} {n : List ℕ} → g ≡ Ok v → (k : ℕ → Act) → Performs pages (k v) r m s n → Performs pages (part k) r m s n
  had_on e k h = rw (had_value e k) h

  pub had_trouble : {t : Trouble} → g ≡ Err t → (k : ℕ → Act) → exec pages (part k) r m ≡ troubled t
  had_trouble e k = rw e at (h.goes k)

  pub had_stop : {t : Trouble} {s : Result Registers Stop} → g ≡ Err t → s ≡ Err (stopped t) → (k : ℕ → Act) → Performs pages (part k) r m s m
  had_stop {t = t} e f k = rw (had_trouble e k) (stopping t f)

pub direct : (pages m : List ℕ) (r : Registers) (word : ℕ) (k : ℕ → Act) → word < 0o100000
    → exec pages (follow word k) r m ≡ exec pages (k word) r m
unfolding exec
direct pages m r word k h =
    let e : bit 15 word ≡ false = ne_eqb _ _ (λ (z : word / 0o100000 % 2 ≡ 1). omega arith) in
    rw (chain_direct pages r.wmap m word r.a r.b e, mod-eq_of_lt h) refl

-- where an address word leads
pub record Leads (pages : List ℕ) (r : Registers) (m : List ℕ) (at to : ℕ) : Type 0 where
  pub goes : (k : ℕ → Act) → exec pages (follow at k) r m ≡ exec pages (k to) r m

module _ (pages : List ℕ) (r : Registers) (m : List ℕ) (at : ℕ) {to : ℕ} where
  pub by_chain : {g : Result ℕ Trouble} {v : ℕ} → Gives pages (follow at) r m g → g ≡ Ok v → to ≡ v → Leads pages r m at to
  by_chain gives f e = rw e (record { goes = λ k. had_value gives f k })

  pub by_itself : at < 0o100000 → to ≡ at → Leads pages r m at to
  by_itself h e = rw e (record { goes = λ k. direct pages m r at k h })

placed : (f : Registers → Registers) (r : Registers) (m : List ℕ) (v : ℕ) (p : Result Place Trouble)
    → f (with_a r v) ≡ with_a (f r) v → f (with_b r v) ≡ with_b (f r) v
    → on_place p v (λ s n. done (f s) n) r m ≡ on_place p v (λ s n. done s n) (f r) m
placed f r m v (Ok Place.A) a b = rw a
placed f r m v (Ok Place.B) a b = rw b
placed f r m v (Ok (Place.Memory i)) a b = refl
placed f r m v (Err t) a b = refl

pub saved : (pages : List ℕ) (map : Map) (at v : ℕ) (k : Act) (r : Registers) (m : List ℕ)
    → exec pages (save map at v k) r m
    ≡ on_place (place pages r.wmap map Purpose.Store at (length m)) v (λ s n. exec pages k s n) r m
unfolding exec
saved pages map at v k r m = refl

saving_last : (pages : List ℕ) (map : Map) (at v : ℕ) (f : Registers → Registers) (r : Registers) (m : List ℕ)
    → (f r).wmap ≡ r.wmap → f (with_a r v) ≡ with_a (f r) v → f (with_b r v) ≡ with_b (f r) v
    → exec pages (save map at v (fin f)) r m ≡ exec pages (save map at v (fin (λ q. q))) (f r) m
unfolding exec
saving_last pages map at v f r m w a b =
    ap (λ q. on_place (place pages q map Purpose.Store at (length m)) v (λ s n. done (f s) n) r m) (sym w)
    ∙ placed f r m v (place pages (f r).wmap map Purpose.Store at (length m)) a b

pub ends_last : (pages : List ℕ) (map : Map) (at v : ℕ) (f : Registers → Registers) (r : Registers) (m : List ℕ)
    {q : Registers} {first n : List ℕ} {s : Result Registers Stop} → (f r).wmap ≡ r.wmap → f (with_a r v) ≡ with_a (f r) v
    → f (with_b r v) ≡ with_b (f r) v → q ≡ f r → Ends first (exec pages (save map at v (fin (λ t. t))) q m) s n
    → Ends first (exec pages (save map at v (fin f)) r m) s n
ends_last pages map at v f r m w a b e h = rw (saving_last pages map at v f r m w a b) (rw e at h)
