-- How a way at an address, and a step, is completed: each law once, so that an arm's proof cites one.
--     gave, below                 what an access gave that a function goes on with
--     loaded, placed, finished    one access that succeeds; the end
--     taking, comparing, putting, stepping    a way that completes
--     step_at, tried              a step, by what its word asks for
--     clear, asking, near, direct, once    an address word that leads on by no level, or by one
--     finished_by                 a code of one address word that reads
--     carrying                    a step of a memory reference, or of a word of shift/rotate or alter/skip
-- Assumes nothing.
use Prim.Native.Nat.{ℕ, ◌+◌, ◌/◌, ◌%◌, ◌<◌, ◌≤◌}
use native.Mathlib.Omega.{arith}
use native.Mathlib.Nat.{mod-eq_of_lt}
use mathlib.Core.Path.{◌≡◌, refl, sym, ap, ◌∙◌}
use mathlib.Core.Bool.{Bool, true, false, not}
use mathlib.Core.List.{List}
use lib.Dec.{eqb, leb}
use lib.ListN.{length, set}
use borrow.Author.Tests.{eq-eqb, ne_eqb, leb-false, eqb-true, eqb-false}
use Rattle.word.specs.Words.{bit, weight}
use Rattle.word.specs.Sums.{incremented, address}
use Rattle.maps.specs.Pages.{place}
use Rattle.maps.specs.Access.{fetched}
use Rattle.maps.specs.Chains.{chain}
use Rattle.maps.proofs.Laws.{place_below, chain_direct, chain_once}
use Rattle.maps.specs.declared.pages.Map.{Map}
use Rattle.maps.specs.declared.pages.Purpose.{Purpose}
use Rattle.maps.specs.declared.pages.Place.{Place}
use Rattle.code.specs.Instructions.{memory_reference, reading}
use Rattle.code.specs.declared.codes.Register.{Register}
use Rattle.acts.specs.Record.{in_register, with_p, ahead}
use Rattle.acts.specs.Acts.{Act, fin, load, save, go_on, done, exec}
use Rattle.acts.specs.declared.record.Registers.{Registers}
use Rattle.effects.specs.Ways.{taken, way_act}
use Rattle.effects.specs.declared.ways.Taking.{Taking}
use Rattle.effects.specs.declared.ways.Way.TheVariants.{StepAndSkip}
use Rattle.rules.specs.Rules.{memory_word, rule, step_act}
use Rattle.lane.specs.Lane.{Tried, Led, carried}
use Rattle.std.specs.Prelude.{Option, Some, None, IfSome, Result, Ok, Err}
use Rattle.std.specs.Result.{result_ok}
use Rattle.maps.specs.declared.troubles.Trouble.{Trouble}

-- what an access gave where a function goes on by `.ok()?`
pub gave : {A E : Type 0} (x : Result A E) {v : A} → Some v ≡ result_ok x → x ≡ Ok v
gave (Ok w) e = cc
gave (Err t) e = absurd (cc)

pub below : (pages : List ℕ) (wmap size at : ℕ) {i : ℕ} (p : Result Place Trouble) → p ≡ place pages wmap Map.Execute Purpose.Store at size
    → Some (Place.Memory i) ≡ result_ok p → i < size
below pages wmap size at {i} p e g = place_below pages wmap Map.Execute Purpose.Store at size i (sym e ∙ gave p g)

module _ (pages m : List ℕ) (r : Registers) where
  ---- One access

  pub loaded : (at : ℕ) {v : ℕ} {f : Result ℕ Trouble} (k : ℕ → Act) → f ≡ fetched pages m r.wmap Map.Execute at r.a r.b → Some v ≡ result_ok f
      → exec pages (load Map.Execute at k) r m ≡ exec pages (k v) r m
  unfolding exec
  loaded at {f = f} k e g = rw (← e, gave f g)

  pub placed : (at v : ℕ) {i : ℕ} (p : Result Place Trouble) (k : Act) → p ≡ place pages r.wmap Map.Execute Purpose.Store at (length m)
      → Some (Place.Memory i) ≡ result_ok p → exec pages (save Map.Execute at v k) r m ≡ exec pages k r (set m i v)
  unfolding exec
  placed at v p k e g = rw (← e, gave p g)

  pub finished : (f : Registers → Registers) {s : Registers} (n : List ℕ) → s ≡ f r → exec pages (fin f) r n ≡ done s n
  unfolding exec
  finished f n e = rw e

  ---- A way that completes

  pub taking : (t : Taking) (at words : ℕ) {v : ℕ} {f : Result ℕ Trouble} {s : Registers} → f ≡ fetched pages m r.wmap Map.Execute at r.a r.b
      → Some v ≡ result_ok f → s ≡ taken t v words r → exec pages (load Map.Execute at (λ w. fin (taken t w words))) r m ≡ done s m
  taking t at words {v} e g h = loaded at (λ w. fin (taken t w words)) e g ∙ finished (taken t v words) m h

  pub comparing : (g : Register) (at : ℕ) {v q : ℕ} {f : Result ℕ Trouble} {s : Registers} → f ≡ fetched pages m r.wmap Map.Execute at r.a r.b
      → Some v ≡ result_ok f → 1 + weight (not (eqb (in_register g r) v)) ≡ q → s ≡ ahead q r
      → exec pages (load Map.Execute at (λ w. fin (taken (Taking.Compare g) w 1))) r m ≡ done s m
  comparing g at e o z h = taking (Taking.Compare g) at 1 e o (h ∙ ap (λ (n : ℕ). ahead n r) (sym z))

  pub putting : (at v q : ℕ) {n : List ℕ} {s : Registers} → exec pages (save Map.Execute at v (go_on q)) r m ≡ exec pages (go_on q) r n → s ≡ with_p r q
      → exec pages (save Map.Execute at v (go_on q)) r m ≡ done s n
  putting at v q {n} e h = e ∙ finished (λ s. with_p s q) n h

  pub stepping : (at : ℕ) {v q : ℕ} {n : List ℕ} {f : Result ℕ Trouble} {s : Registers} → f ≡ fetched pages m r.wmap Map.Execute at r.a r.b
      → Some v ≡ result_ok f → ((k : Act) → exec pages (save Map.Execute at (incremented v).word k) r m ≡ exec pages k r n)
      → 1 + weight (eqb (incremented v).word 0) ≡ q → s ≡ with_p r (address r.p q) → exec pages (way_act StepAndSkip r at 1) r m ≡ done s n
  stepping at {v} e g a z h =
      loaded at (λ w. save Map.Execute at (incremented w).word (go_on (address r.p (1 + weight (eqb (incremented w).word 0))))) e g
      ∙ putting at (incremented v).word (address r.p (1 + weight (eqb (incremented v).word 0))) (a _) (h ∙ ap (λ (n : ℕ). with_p r (address r.p n)) (sym z))

  ---- A step

  pub step_at : {w : ℕ} {f : Result ℕ Trouble} → r.trap ≡ 0 → f ≡ fetched pages m r.wmap Map.Execute r.p r.a r.b → Some w ≡ result_ok f
      → exec pages (step_act r) r m ≡ exec pages (rule (reading w) r) r m
  step_at t e g = rw (eq-eqb _ _ t) (loaded r.p (λ w. rule (reading w) r) e g)

  pub tried : (act act' : Act) (n : List ℕ) (w : Option Registers) → exec pages act r m ≡ exec pages act' r m → Tried pages act' r m w n → Tried pages act r m w n
  tried act act' n None e h = h
  tried act act' n (Some s) e h = e ∙ h

---- Address words

pub clear : (w : ℕ) → w < 0o100000 → bit 15 w ≡ false
clear w l = ne_eqb _ _ (λ (z : w / 0o100000 % 2 ≡ 1). omega arith)

pub asking : (w : ℕ) → 0o100000 ≤ w → w < 0o200000 → bit 15 w ≡ true
asking w l h = eq-eqb (w / 0o100000 % 2) 1 (omega arith)

-- a memory reference that is not indirect
pub near : (current : Bool) (offset p : ℕ) → memory_word false current offset p < 0o100000
near true offset p = omega arith
near false offset p = omega arith

module _ (pages m : List ℕ) (r : Registers) where
  pub direct : (word : ℕ) → word < 0o100000 → chain pages m r.wmap word r.a r.b ≡ Ok word
  direct word l = chain_direct pages r.wmap m word r.a r.b (clear word l) ∙ ap Ok (mod-eq_of_lt l)

  pub once : (word : ℕ) {next : ℕ} {f : Result ℕ Trouble} → 0o100000 ≤ word → word < 0o200000
      → f ≡ fetched pages m r.wmap Map.Execute word r.a r.b → f ≡ Ok next → next < 0o100000
      → chain pages m r.wmap word r.a r.b ≡ Ok next
  once word {next} l b e g h =
      chain_once pages r.wmap m word next r.a r.b (asking word l b) (sym e ∙ g) (clear next h) ∙ ap Ok (mod-eq_of_lt h)

  -- a memory reference, or a word of shift/rotate or alter/skip
  pub carrying : {w at : ℕ} {f : Result ℕ Trouble} → r.trap ≡ 0 → f ≡ fetched pages m r.wmap Map.Execute r.p r.a r.b → Some w ≡ result_ok f
      → (w / 0o4000 % 16 < 2 → w < 0o100000) → Led pages (memory_word (bit 15 w) (bit 10 w) (w % 0o2000) r.p) r m (Some at)
      → exec pages (step_act r) r m ≡ exec pages (carried w at r) r m
  unfolding exec carried reading memory_reference
  carrying {w} {at} t e g few led = step_at pages m r t e g ∙ go (leb 2 (w / 0o4000 % 16)) refl
    where
      go : (b : Bool) → leb 2 (w / 0o4000 % 16) ≡ b → exec pages (rule (reading w) r) r m ≡ exec pages (carried w at r) r m
      go true h = rw (reading, h, memory_reference, led) refl
      go false h = rw (reading, h, clear w (few (omega (arith, leb-false 2 (w / 0o4000 % 16) h)))) refl

-- a word that was read, and what the codes of one address word make of it
pub finished_by : (pages m : List ℕ) (r : Registers) (t : Taking) (at : ℕ) {v : ℕ} {f : Result ℕ Trouble} (w : Option Registers)
    → f ≡ fetched pages m r.wmap Map.Execute at r.a r.b → Some v ≡ result_ok f → IfSome w (λ s. s ≡ taken t v 2 r)
    → Tried pages (load Map.Execute at (λ x. fin (taken t x 2))) r m w m
finished_by pages m r t at (Some s) e g h = taking pages m r t at 2 e g h
finished_by pages m r t at None e g h = refl

---- Bits

pub even : (w : ℕ) → eqb (w % 2) 0 ≡ not (bit 0 w)
even w = go (eqb (w % 2) 0) refl
  where
    go : (b : Bool) → eqb (w % 2) 0 ≡ b → b ≡ not (bit 0 w)
    go true h = rw (ne_eqb (w / 1 % 2) 1 (λ e. omega (arith, eqb-true (w % 2) 0 h))) refl
    go false h = rw (eq-eqb (w / 1 % 2) 1 (omega (arith, eqb-false (w % 2) 0 h))) refl
