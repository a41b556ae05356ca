-- Bytes whose places are both even or both odd, copied by whole words. The laws hold of every list, inside it and outside.
--     carried_high, carried_low, carried_both    one half of a word carried; both are the word, also where it is carried to itself
--     copies_sum                                 a copy in two parts
--     copies_whole                               bytes from an even place on are words
--     copies_alike                               the first byte, the words and the last byte are all of them
-- Assumes nothing.
use Rattle.std.proofs.Common.{◌≡◌, ℕ, zero, suc, ◌+◌, ◌-◌, ◌*◌, ◌/◌, ◌%◌, ◌<◌, Bool, true, false, eqb, ltb, min, List, length, get_or, set, sym, refl, ap, ◌∙◌, arith, get_or-set_other, get_or-set_same, set-set, ltb-false, ltb-true, eq-eqb, ne_eqb, eqb-true}
use lib.Seq.{set_out}
use borrow.Author.Tests.{eqb-false}
use Rattle.maps.specs.Bytes.{is_low_byte}
use Rattle.strings.specs.Copies.{carried, copies}
use Rattle.strings.specs.declared.strings.Element.{Element}
use Rattle.strings.specs.declared.strings.Element.TheVariants.{Word, Byte}

-- the high half of one word before the low half of another
abbrev joined_halves : ℕ → ℕ → ℕ
joined_halves high low = high / 256 * 256 + low % 256

even : (i : ℕ) → is_low_byte (i * 2) ≡ false
even i = ne_eqb (i * 2 % 2) 1 (λ e. absurd (omega arith))

odd : (i : ℕ) → is_low_byte (i * 2 + 1) ≡ true
odd i = eq-eqb ((i * 2 + 1) % 2) 1 (omega arith)

carried_high : (i j : ℕ) (m : List ℕ) → carried Byte (i * 2) (j * 2) m ≡ set m j (joined_halves (get_or m i 0) (get_or m j 0))
carried_high i j m =
    let e : i * 2 / 2 ≡ i = omega arith in
    let f : j * 2 / 2 ≡ j = omega arith in
    rw (even i, even j, e, f)

carried_low : (i j : ℕ) (m : List ℕ) → carried Byte (i * 2 + 1) (j * 2 + 1) m ≡ set m j (joined_halves (get_or m j 0) (get_or m i 0))
carried_low i j m =
    let e : (i * 2 + 1) / 2 ≡ i = omega arith in
    let f : (j * 2 + 1) / 2 ≡ j = omega arith in
    rw (odd i, odd j, e, f)

module _ (i j : ℕ) (m : List ℕ) where
  -- word j once its high half is that of word i
  abbrev halfway : ℕ
  halfway = joined_halves (get_or m i 0) (get_or m j 0)

  -- its low half is then that of word i, which is as it was or is word j itself
  both : (s : Bool) → eqb i j ≡ s → j < length m
      → joined_halves (get_or (set m j halfway) j 0) (get_or (set m j halfway) i 0) ≡ get_or m i 0
  both true e l = let f = eqb-true i j e in rw (f, get_or-set_same m j _ 0 l) (omega arith)
  both false e l = rw (get_or-set_same m j halfway 0 l, get_or-set_other m j i halfway 0 (eqb-false i j e)) (omega arith)

  -- a store outside changes nothing
  inside : (s : Bool) → ltb j (length m) ≡ s
      → set m j (joined_halves (get_or (set m j halfway) j 0) (get_or (set m j halfway) i 0)) ≡ set m j (get_or m i 0)
  inside true e = ap (set m j) (both (eqb i j) refl (ltb-true j (length m) e))
  inside false e = let l = ltb-false j (length m) e in set_out m j _ l ∙ sym (set_out m j _ l)

  carried_both : carried Byte (i * 2 + 1) (j * 2 + 1) (carried Byte (i * 2) (j * 2) m) ≡ carried Word i j m
  carried_both =
      ap (carried Byte (i * 2 + 1) (j * 2 + 1)) (carried_high i j m)
      ∙ carried_low i j (set m j halfway) ∙ set-set m j _ _ ∙ inside (ltb j (length m)) refl

copies_sum : (u : Element) (i j s t : ℕ) (m : List ℕ) → copies u i j (s + t) m ≡ copies u (i + s) (j + s) t (copies u i j s m)
unfolding copies
copies_sum u i j zero t m =
    let e : zero + t ≡ t = omega arith in
    let f : i + zero ≡ i = omega arith in
    let g : j + zero ≡ j = omega arith in
    rw (e, f, g)
copies_sum u i j (suc s) t m =
    let e : suc s + t ≡ suc (s + t) = omega arith in
    let f : i + suc s ≡ i + 1 + s = omega arith in
    let g : j + suc s ≡ j + 1 + s = omega arith in
    rw (e, f, g) (copies_sum u (i + 1) (j + 1) s t (carried u i j m))

copies_whole : (i j n : ℕ) (m : List ℕ) → copies Byte (i * 2) (j * 2) (n * 2) m ≡ copies Word i j n m
unfolding copies
copies_whole i j zero m = refl
copies_whole i j (suc n) m =
    let e : suc n * 2 ≡ suc (suc (n * 2)) = omega arith in
    let f : i * 2 + 1 + 1 ≡ (i + 1) * 2 = omega arith in
    let g : j * 2 + 1 + 1 ≡ (j + 1) * 2 = omega arith in
    ap (λ (k : ℕ). copies Byte (i * 2) (j * 2) k m) e
    ∙ ap (copies Byte (i * 2 + 1 + 1) (j * 2 + 1 + 1) (n * 2)) (carried_both i j m)
    ∙ (rw (f, g) (copies_whole (i + 1) (j + 1) n (carried Word i j m)))

-- words from an even place on, or none
copies_words : (i j n : ℕ) (m : List ℕ) → (0 < n → i % 2 ≡ 0) → (0 < n → j % 2 ≡ 0) → copies Word (i / 2) (j / 2) n m ≡ copies Byte i j (n * 2) m
unfolding copies
copies_words i j zero m p q = refl
copies_words i j (suc n) m p q =
    let e : i / 2 * 2 ≡ i = omega (arith, p (omega arith)) in
    let f : j / 2 * 2 ≡ j = omega (arith, q (omega arith)) in
    rw (e, f) at (sym (copies_whole (i / 2) (j / 2) (suc n) m))

-- t bytes first, which come to an even place where two or more are left
module _ (i j n t : ℕ) (m : List ℕ) (alike : i % 2 ≡ j % 2) (head : t ≡ min n (i % 2)) where
  come : (s : Bool) → eqb (i % 2) 0 ≡ s → 0 < (n - t) / 2 → t ≡ i % 2
  come true e l = let z = eqb-true (i % 2) 0 e in omega (arith, head)
  come false e l = let z = eqb-false (i % 2) 0 e in omega (arith, head)

  pub copies_alike : {m₁ m₂ m₃ : List ℕ} → m₁ ≡ copies Byte i j t m
      → m₂ ≡ copies Word ((i + t) / 2) ((j + t) / 2) ((n - t) / 2) m₁
      → m₃ ≡ copies Byte (i + t + (n - t) / 2 * 2) (j + t + (n - t) / 2 * 2) ((n - t) % 2) m₂
      → m₃ ≡ copies Byte i j n m
  copies_alike e f g =
      let w = (n - t) / 2 in
      let o : t + (w * 2 + (n - t) % 2) ≡ n = omega (arith, head) in
      let p = copies_words (i + t) (j + t) w (copies Byte i j t m) (λ l. omega (arith, come _ refl l)) (λ l. omega (arith, alike, come _ refl l)) in
      rw (g, f, e, p)
      (sym (copies_sum Byte (i + t) (j + t) (w * 2) ((n - t) % 2) (copies Byte i j t m))
      ∙ sym (copies_sum Byte i j t (w * 2 + (n - t) % 2) m) ∙ ap (λ (k : ℕ). copies Byte i j k m) o)
