-- Whether a range touches A or B, told from its two ends: it begins there, or it goes past the last address and so comes round.
-- Assumes nothing.
use Rattle.std.proofs.Common.{◌≡◌, ℕ, zero, suc, ◌+◌, ◌/◌, ◌%◌, ◌<◌, ◌≤◌, Bool, true, false, not, ◌&&◌, ◌||◌, eqb, ltb, sym, refl, arith, ltb-false, ltb-true, le-ltb, lt-ltb, ne_eqb}
use Rattle.maps.specs.Pages.{is_register}
use Rattle.maps.specs.declared.pages.Map.{Map}
use Rattle.strings.specs.Strings.{word_at, along, touches}
use Rattle.strings.specs.declared.strings.Element.{Element}
use Rattle.strings.specs.declared.strings.Element.TheVariants.{Word, Byte}

-- the number of addresses, and of those that lie in A or B
abbrev pub round : Element → ℕ
round Word = 0o100000
round Byte = 0o200000

abbrev pub low : Element → ℕ
low Word = 2
low Byte = 4

abbrev pub comes_low : ℕ → ℕ → ℕ → ℕ → Bool
comes_low few round first n = not (eqb n 0) && (ltb first few || ltb round (first + n))

-- one address on, from one that is not low
turn : (few round first next n : ℕ) → 0 < few → first < round → few ≤ first
    → (first + 1 < round → next ≡ first + 1) → (round ≤ first + 1 → next ≡ 0)
    → comes_low few round next n ≡ ltb round (first + suc n)
turn few round first next zero a b c d e = sym (le-ltb round (first + 1) (omega arith))
turn few round first next (suc n) a b c d e =
    rw (ne_eqb (suc n) 0 (λ q. omega arith)) (go (ltb (first + 1) round) refl)
  where
    go : (t : Bool) → ltb (first + 1) round ≡ t → (ltb next few || ltb round (next + suc n)) ≡ ltb round (first + suc (suc n))
    go true f =
        let g = d (ltb-true (first + 1) round f) in
        let h : next + suc n ≡ first + suc (suc n) = omega arith in
        rw (le-ltb next few (omega arith), h)
    go false f =
        let g = e (ltb-false (first + 1) round f) in
        rw (lt-ltb next few (omega arith), lt-ltb round (first + suc (suc n)) (omega (arith, ltb-false (first + 1) round f)))

record Next (u : Element) (at : ℕ) : Type 0 where
  some : 0 < low u
  inside : at % round u < round u
  up : at % round u + 1 < round u → along u at 1 % round u ≡ at % round u + 1
  over : round u ≤ at % round u + 1 → along u at 1 % round u ≡ 0
  here : is_register Map.Execute (word_at u at) ≡ ltb (at % round u) (low u)

next : (u : Element) (at : ℕ) → Next u at
next Word at =
    let e : at % 0o100000 % 0o100000 ≡ at % 0o100000 = omega arith in
    record { some = omega arith; inside = omega arith; up = λ l. omega arith; over = λ l. omega arith; here = rw e }
next Byte at = record { some = omega arith; inside = omega arith; up = λ l. omega arith; over = λ l. omega arith; here = half (ltb (at % 0o200000) 4) refl }
  where
    half : (t : Bool) → ltb (at % 0o200000) 4 ≡ t → ltb (at / 2 % 0o100000) 2 ≡ t
    half true e = lt-ltb (at / 2 % 0o100000) 2 (omega (arith, ltb-true (at % 0o200000) 4 e))
    half false e = le-ltb (at / 2 % 0o100000) 2 (omega (arith, ltb-false (at % 0o200000) 4 e))

pub touches_ends : (u : Element) (at n : ℕ) → touches u Map.Execute at n ≡ comes_low (low u) (round u) (at % round u) n
unfolding touches
touches_ends u at zero = refl
touches_ends u at (suc n) =
    let a = next u at in
    rw (a.here, touches_ends u (along u at 1) n, ne_eqb (suc n) 0 (λ q. omega arith)) (go (ltb (at % round u) (low u)) refl)
  where
    go : (t : Bool) → ltb (at % round u) (low u) ≡ t
        → (t || comes_low (low u) (round u) (along u at 1 % round u) n) ≡ (t || ltb (round u) (at % round u + suc n))
    go true e = refl
    go false e =
        let a = next u at in
        turn (low u) (round u) (at % round u) (along u at 1 % round u) n a.some a.inside (ltb-false (at % round u) (low u) e) a.up a.over

pub touches_data : (u : Element) (map : Map) (at n : ℕ) → ((x : ℕ) → is_register map x ≡ false) → touches u map at n ≡ false
unfolding touches
touches_data u map at zero e = refl
touches_data u map at (suc n) e = rw (e (word_at u at)) (touches_data u map (along u at 1) n e)
