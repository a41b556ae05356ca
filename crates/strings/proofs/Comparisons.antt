-- One turn of a comparison: what the proof of the loop cites.
--     turn               how the comparison goes on after a pair
--     ended              `exec` of a program at its end
--     went_on, found, stopped    `exec` of a comparison by what one pair gave
-- Assumes nothing.
use mathlib.Core.Bool.{false≢true}
use Rattle.std.proofs.Common.{◌≡◌, ℕ, zero, suc, ◌-◌, ◌≤◌, Bool, true, false, not, List, refl, sym, ◌∙◌, arith}
use Rattle.std.specs.Bool.{◌==◌}
use Rattle.std.specs.Ordering.{ordering_index}
use Rattle.std.specs.declared.cmp.Ordering.{Ordering}
use Rattle.acts.specs.Acts.{Act, fin, done, exec, troubled}
use Rattle.strings.specs.Strings.{along, on_order, pairing, compared, concluded, comparing, Compares}
use Rattle.acts.specs.declared.record.Registers.{Registers}
use Rattle.maps.specs.declared.troubles.Trouble.{Trouble}
use Rattle.strings.specs.declared.strings.Element.{Element}
use Rattle.std.specs.Prelude.{Result, Ok, Err}

-- how the comparison goes on after a pair with n more to come
abbrev pub turn : Element → ℕ → ℕ → ℕ → ℕ → Ordering → Act
turn u end s d n o = on_order o (fin (compared 4 s end)) (comparing u end (along u s 1) (along u d 1) n) (fin (compared 5 s end))

turning : (u : Element) (end s d n : ℕ) → 1 ≤ n → comparing u end s d n ≡ pairing u s d (turn u end s d (n - 1))
unfolding comparing
turning u end s d zero some = absurd (omega arith)
turning u end s d (suc n) some =
    let e : suc n - 1 ≡ n = omega arith in
    rw e

pub ended : (pages : List ℕ) (f : Registers → Registers) (r : Registers) (m : List ℕ) → exec pages (fin f) r m ≡ done (f r) m
unfolding exec
ended pages f r m = refl

-- the test that an order is not `Equal`
abbrev pub differing : Ordering → Bool
differing o = not (ordering_index o == ordering_index Ordering.Equal)

module _ (pages : List ℕ) (u : Element) (end s d n : ℕ) (r : Registers) (m : List ℕ) where
  alike : {s' d' : ℕ} (o : Ordering) → false ≡ differing o → s' ≡ along u s 1 → d' ≡ along u d 1
      → exec pages (turn u end s d n o) r m ≡ exec pages (comparing u end s' d' n) r m
  alike Ordering.Less e x y = absurd (false≢true e)
  alike Ordering.Equal e x y = rw (x, y)
  alike Ordering.Greater e x y = absurd (false≢true e)

  differs : (o : Ordering) → true ≡ differing o → exec pages (turn u end s d n o) r m ≡ done (concluded o s end r) m
  unfolding exec
  differs Ordering.Less e = refl
  differs Ordering.Equal e = absurd (false≢true (sym e))
  differs Ordering.Greater e = refl

module _ (pages : List ℕ) (u : Element) (end s d n : ℕ) (r : Registers) (m : List ℕ) (some : 1 ≤ n) {p : Result Ordering Trouble} (h : Compares pages u s d r m p) where
  ordered : {o : Ordering} → p ≡ Ok o → exec pages (comparing u end s d n) r m ≡ exec pages (turn u end s d (n - 1) o) r m
  ordered e = rw (turning u end s d n some) ((rw e at h.goes) (turn u end s d (n - 1)))

  pub went_on : {s' d' : ℕ} {o : Ordering} → p ≡ Ok o → false ≡ differing o → s' ≡ along u s 1 → d' ≡ along u d 1
      → exec pages (comparing u end s d n) r m ≡ exec pages (comparing u end s' d' (n - 1)) r m
  went_on {o = o} e f x y = ordered e ∙ alike pages u end s d (n - 1) r m o f x y

  pub found : {o : Ordering} → p ≡ Ok o → true ≡ differing o → exec pages (comparing u end s d n) r m ≡ done (concluded o s end r) m
  found {o = o} e f = ordered e ∙ differs pages u end s d (n - 1) r m o f

  pub stopped : {t : Trouble} → p ≡ Err t → exec pages (comparing u end s d n) r m ≡ troubled t
  stopped e = rw (turning u end s d n some) ((rw e at h.goes) (turn u end s d (n - 1)))
