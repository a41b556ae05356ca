-- A move after its tests: a stretch of elements copied by their places in memory.
--     Copied, copied_inside, copied_fits, copied_on    how far the copy of a stretch has come; its next element, and one element on
--     Filled, filled, filled_all           how far a copy of words to the places one on has come: they are all the first word
--     Placed, placed_on                    the place of an element, and of the next on its page
--     Moves, moves_source, moves_target    how far a move has come; its next elements are in memory
--     moves_inside, moves_stretch          a stretch of it in memory; a stretch on
-- Assumes nothing.
use Rattle.std.proofs.Common.{◌≡◌, ℕ, zero, suc, ◌+◌, ◌-◌, ◌*◌, ◌/◌, ◌%◌, ◌<◌, ◌≤◌, List, [], length, get_or, set, replicate, refl, sym, ap, ◌∙◌, arith, length-set, get_or-set_same}
use lib.Seq.{paste}
use borrow.Rule.Slice.PartMut.{put_mid}
use Rattle.std.proofs.lemmas.List.{length-replicate}
use Rattle.std.proofs.lemmas.List.Edits.{paste_none, fill_from_more}
use Rattle.std.proofs.lemmas.Slice.{put_mid-paste}
use Rattle.maps.specs.Pages.{physical_page, page_register, register_of, index_in}
use Rattle.maps.proofs.Laws.{place_below}
use Rattle.maps.specs.declared.pages.Map.{Map}
use Rattle.maps.specs.declared.pages.Purpose.{Purpose}
use Rattle.acts.specs.Acts.{Act, exec}
use Rattle.strings.specs.Strings.{word_at, along, purpose_of, moving}
use Rattle.strings.specs.Copies.{per_page, InMemory, lead, place_in, index_of, places_in, Stretch, carried, copies}
use Rattle.acts.specs.declared.record.Registers.{Registers}
use Rattle.strings.specs.declared.strings.Element.{Element}
use Rattle.strings.specs.declared.strings.Element.TheVariants.{Word, Byte}
use Rattle.strings.proofs.Ranges.{Reaches, reaches_on, leads, move_one}
use Rattle.strings.proofs.Stretches.{along_on, page_on}

carried_length : (u : Element) (i j : ℕ) (m : List ℕ) → length (carried u i j m) ≡ length m
carried_length Word i j m = length-set m j _
carried_length Byte i j m = length-set m (j / 2) _

carried_places : (u : Element) (i j : ℕ) (m : List ℕ) → places_in u (carried u i j m) ≡ places_in u m
carried_places Word i j m = carried_length Word i j m
carried_places Byte i j m = rw (carried_length Byte i j m)

copies_on : (u : Element) (i j n : ℕ) (m : List ℕ) → 0 < n → copies u i j n m ≡ copies u (i + 1) (j + 1) (n - 1) (carried u i j m)
unfolding copies
copies_on u i j zero m l = absurd (omega arith)
copies_on u i j (suc n) m l = let e : suc n - 1 ≡ n = omega arith in rw e

in_places : (u : Element) (i : ℕ) (m : List ℕ) → i < places_in u m → index_of u i < length m
in_places Word i m l = l
in_places Byte i m l = omega arith

places_fit : (u : Element) (m : List ℕ) → places_in u m ≤ length m * 2
places_fit Word m = omega arith
places_fit Byte m = omega arith

-- a copy of n elements has left n' of them to copy in a memory m'
pub record Copied (u : Element) (i j n : ℕ) (m : List ℕ) (i' j' n' : ℕ) (m' : List ℕ) : Type 0 where
  pub lengths : length m' ≡ length m
  pub first : i' + n' ≤ places_in u m'
  pub second : j' + n' ≤ places_in u m'
  pub onward : copies u i j n m ≡ copies u i' j' n' m'

module _ (u : Element) (i j n : ℕ) (m : List ℕ) (i' j' n' : ℕ) (m' : List ℕ) (some : 0 < n') (h : Copied u i j n m i' j' n' m') where
  pub copied_inside : (index_of u i' < length m') × (index_of u j' < length m')
  copied_inside = (in_places u i' m' (omega (arith, h.first)), in_places u j' m' (omega (arith, h.second)))

  pub copied_fits : (i' + 1 ≤ length m * 2) × (j' + 1 ≤ length m * 2)
  copied_fits = (omega (arith, h.first, places_fit u m', h.lengths), omega (arith, h.second, places_fit u m', h.lengths))

  pub copied_on : {i'' j'' n'' : ℕ} {m'' : List ℕ} → i'' ≡ i' + 1 → j'' ≡ j' + 1 → n'' ≡ n' - 1 → m'' ≡ carried u i' j' m'
      → Copied u i j n m i'' j'' n'' m''
  copied_on x y z e =
      let p = carried_places u i' j' m' in
      rw (x, y, z, e)
      (record {
        lengths = carried_length u i' j' m' ∙ h.lengths;
        first = omega (arith, h.first);
        second = omega (arith, h.second);
        onward = h.onward ∙ copies_on u i' j' n' m' some;
      })

-- a copy of n words to the places one on has left n' of them to copy in a memory m', from the place j on; the word before it is v
pub record Filled (i n : ℕ) (m : List ℕ) (v j n' : ℕ) (m' : List ℕ) : Type 0 where
  pub past : 0 < j
  pub found : get_or m' (j - 1) 0 ≡ v
  pub copied : Copied Word i (i + 1) n m (j - 1) j n' m'

filled_first : (i n : ℕ) (m : List ℕ) {j : ℕ} {m' : List ℕ} → i + 1 + n ≤ length m → j ≡ i + 1 → m' ≡ m → Filled i n m (get_or m i 0) j n m'
filled_first i n m l f g =
    let e : i + 1 - 1 ≡ i = omega arith in
    rw (f, g)
    (record {
      past = omega arith;
      found = rw e;
      copied = rw e (record { lengths = refl; first = omega arith; second = l; onward = refl });
    })

filled_on : (i n : ℕ) (m : List ℕ) (v j n' : ℕ) (m' : List ℕ) {j' n'' : ℕ} {m'' : List ℕ} → 0 < n' → Filled i n m v j n' m'
    → j' ≡ j + 1 → n'' ≡ n' - 1 → m'' ≡ set m' j v → Filled i n m v j' n'' m''
filled_on i n m v j n' m' some h x y z =
    let a : j + 1 - 1 ≡ j = omega arith in
    rw (x, y, z)
    (record {
      past = omega arith;
      found = rw a (get_or-set_same m' j v 0 (omega (arith, h.copied.second)));
      copied = copied_on Word i (i + 1) n m (j - 1) j n' m' some h.copied (omega (arith, h.past)) refl refl (rw h.found);
    })

-- k of them are the first word, written k times
filled : (i n : ℕ) (m : List ℕ) → i + 1 + n ≤ length m → (k : ℕ) → k ≤ n
    → Filled i n m (get_or m i 0) (i + 1 + k) (n - k) (paste m (i + 1) (replicate k (get_or m i 0)) k)
filled i n m l zero b =
    let e : n - 0 ≡ n = omega arith in
    rw e (filled_first i n m l (omega arith) (sym (paste_none m (i + 1) [])))
filled i n m l (suc k) b =
    let v = get_or m i 0 in
    let e : suc k ≡ k + 1 = omega arith in
    filled_on i n m v (i + 1 + k) (n - k) (paste m (i + 1) (replicate k v) k) (omega arith) (filled i n m l k (omega arith)) (omega arith) (omega arith)
    (ap (λ (q : ℕ). paste m (i + 1) (replicate q v) q) e ∙ sym (fill_from_more m (i + 1) k v (omega arith)))

pub filled_all : (i n t k : ℕ) (m : List ℕ) {f : List ℕ} → i + 1 + n ≤ length m → t ≡ n → k ≡ n → f ≡ replicate k (get_or m i 0)
    → put_mid (i + 1) t m f ≡ copies Word i (i + 1) n m
unfolding copies
filled_all i n t k m l e f g =
    let z : n - n ≡ 0 = omega arith in
    put_mid-paste (i + 1) t m _ (replicate n (get_or m i 0)) n (g ∙ ap (λ (q : ℕ). replicate q (get_or m i 0)) f) (sym e) (sym (length-replicate n (get_or m i 0)))
    ∙ sym (rw z at (filled i n m l n (omega arith)).copied.onward)

below_places : (u : Element) (i : ℕ) (m : List ℕ) → index_of u i < length m → i + 1 ≤ places_in u m
below_places Word i m l = omega arith
below_places Byte i m l = omega arith

word_in : (u : Element) (index at : ℕ) → index_of u (place_in u index at) ≡ index
word_in Word index at = refl
word_in Byte index at = omega arith

-- the place of an element goes by its page and its offset there
page_place : (u : Element) (register at : ℕ) → place_in u (index_in register (word_at u at)) at ≡ physical_page register * per_page u + at % per_page u
page_place Word register at = omega arith
page_place Byte register at = omega arith

module _ (pages : List ℕ) (r : Registers) where
  abbrev pub Placed : Element → Map → ℕ → ℕ → Type 0
  Placed u map at i = i ≡ place_in u (lead pages r.wmap map (word_at u at)) at

  placed_on : (u : Element) (map : Map) (at : ℕ) {i : ℕ} → at % per_page u + 1 < per_page u → Placed u map at i → Placed u map (along u at 1) (i + 1)
  placed_on u map at l e =
      let g = page_on u at 1 l in
      let q = ap (page_register pages r.wmap map) g.page in
      rw (page_place u (register_of pages r.wmap map (word_at u (along u at 1))) (along u at 1), ← q, g.next, e, page_place u (register_of pages r.wmap map (word_at u at)) at) (omega arith)

  inside : (u : Element) (map : Map) (purpose : Purpose) (at t n : ℕ) (m : List ℕ) {i : ℕ} → suc t ≤ n → at % per_page u + suc t ≤ per_page u
      → Reaches pages r.wmap (length m) u map purpose at n → Placed u map at i → i + suc t ≤ places_in u m
  inside u map purpose at zero n m {i} l p h e =
      let x = leads pages r.wmap (length m) u map purpose at (reaches_on pages r.wmap (length m) u map purpose at n (omega arith) h).0 in
      below_places u i m (rw (e, word_in u) (place_below pages r.wmap map purpose (word_at u at) (length m) _ x))
  inside u map purpose at (suc t) n m {i} l p h e =
      let g = page_on u at 1 (omega arith) in
      omega (arith, inside u map purpose (along u at 1) t (n - 1) m (omega arith) (omega (arith, g.next)) (reaches_on pages r.wmap (length m) u map purpose at n (omega arith) h).1 (placed_on u map at (omega arith) e))

  module _ (u : Element) (from to : Map) (s d n : ℕ) (m : List ℕ) where
    -- a move of n elements has left n' of them to move in a memory m'
    pub record Moves (s' d' n' : ℕ) (m' : List ℕ) : Type 0 where
      pub lengths : length m' ≡ length m
      pub source : Reaches pages r.wmap (length m') u from Purpose.Read s' n'
      pub target : Reaches pages r.wmap (length m') u to (purpose_of u) d' n'
      pub onward : (k : Act) → exec pages (moving u from to s d n k) r m ≡ exec pages (moving u from to s' d' n' k) r m'

    moves_on : (s' d' n' : ℕ) (m' : List ℕ) {i j : ℕ} → 0 < n' → Moves s' d' n' m' → Placed u from s' i → Placed u to d' j
        → Moves (along u s' 1) (along u d' 1) (n' - 1) (carried u i j m')
    moves_on s' d' n' m' {i} {j} l h e f =
        let x = reaches_on pages r.wmap (length m') u from Purpose.Read s' n' l h.source in
        let y = reaches_on pages r.wmap (length m') u to (purpose_of u) d' n' l h.target in
        let z = carried_length u i j m' in
        let o : suc (n' - 1) ≡ n' = omega arith in
        record {
          lengths = z ∙ h.lengths;
          source = rw z x.1;
          target = rw z y.1;
          onward = λ k. h.onward k ∙ (rw (← e, ← f, o) at (move_one pages r u from to s' d' (n' - 1) k m' x.0 y.0));
        }

    stretch : (s' d' t n' : ℕ) (m' : List ℕ) {i j : ℕ} → suc t ≤ n' → s' % per_page u + suc t ≤ per_page u → d' % per_page u + suc t ≤ per_page u
        → Moves s' d' n' m' → Placed u from s' i → Placed u to d' j
        → Moves (along u s' (suc t)) (along u d' (suc t)) (n' - suc t) (copies u i j (suc t) m')
    unfolding copies
    stretch s' d' zero n' m' l p q h e f = moves_on s' d' n' m' (omega arith) h e f
    stretch s' d' (suc t) n' m' {i} {j} l p q h e f =
        let g = page_on u s' 1 (omega arith) in
        let g' = page_on u d' 1 (omega arith) in
        let o : n' - 1 - suc t ≡ n' - suc (suc t) = omega arith in
        rw (← along_on u s' (suc t), ← along_on u d' (suc t), ← o)
        (stretch (along u s' 1) (along u d' 1) t (n' - 1) (carried u i j m') (omega arith) (omega (arith, g.next)) (omega (arith, g'.next))
        (moves_on s' d' n' m' (omega arith) h e f) (placed_on u from s' (omega arith) e) (placed_on u to d' (omega arith) f))

  module _ {u : Element} {from to : Map} {s d n : ℕ} {m : List ℕ} {s' d' n' : ℕ} {m' : List ℕ} (some : 0 < n') (h : Moves u from to s d n m s' d' n' m') where
    pub moves_source : InMemory pages r.wmap (length m') u from Purpose.Read s'
    moves_source = (reaches_on pages r.wmap (length m') u from Purpose.Read s' n' some h.source).0

    pub moves_target : {q : Purpose} → q ≡ purpose_of u → InMemory pages r.wmap (length m') u to q d'
    moves_target e = rw e (reaches_on pages r.wmap (length m') u to (purpose_of u) d' n' some h.target).0

    -- a stretch on one page of the second range, of a stretch on one page of the first
    pub moves_inside : (t o : ℕ) {i j : ℕ} → Stretch u s' n' o → Stretch u d' o t → Placed u from s' i → Placed u to d' j
        → (i + t ≤ places_in u m') × (j + t ≤ places_in u m')
    moves_inside zero o a b e f = absurd (omega (arith, b.some (a.some some)))
    moves_inside (suc t) o a b e f = (
      inside u from Purpose.Read s' t n' m' (omega (arith, a.within, b.within)) (omega (arith, a.page, b.within)) h.source e,
      inside u to (purpose_of u) d' t n' m' (omega (arith, a.within, b.within)) b.page h.target f,
    )

    pub moves_stretch : (t o : ℕ) {i j s'' d'' : ℕ} {m'' : List ℕ} → Stretch u s' n' o → Stretch u d' o t → Placed u from s' i → Placed u to d' j
        → m'' ≡ copies u i j t m' → s'' ≡ along u s' t → d'' ≡ along u d' t
        → Moves u from to s d n m s'' d'' (n' - t) m''
    moves_stretch zero o a b e f x y z = absurd (omega (arith, b.some (a.some some)))
    moves_stretch (suc t) o a b e f x y z =
        rw (x, y, z)
        (stretch u from to s d n m s' d' t n' m' (omega (arith, a.within, b.within)) (omega (arith, a.page, b.within)) b.page h e f)
