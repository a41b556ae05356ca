-- Ranges of words and bytes: what the tests of a move tell of each element, and what moving one does.
--     open_goes, present_goes     a test that is passed
--     Reaches                     each element of a range is one that an access reaches
--     reaches, ready              they are, where the tests of the range, and of a move, succeed
--     passes                      a move goes on where its tests succeed
--     leads, move_one             the place of an element that an access reaches; one element moved
-- Assumes nothing.
use Rattle.std.proofs.Common.{◌≡◌, ℕ, zero, suc, ◌+◌, ◌-◌, ◌*◌, ◌/◌, ◌%◌, ◌<◌, Bool, true, false, cond, ◌&&◌, ◌||◌, List, length, sym, refl, ap, ◌∙◌, arith}
use Rattle.maps.specs.Pages.{is_register, is_open, presence, spot, place}
use Rattle.maps.specs.Access.{fetched}
use Rattle.maps.proofs.Laws.{place_reached, open_both}
use Rattle.maps.specs.declared.pages.Map.{Map}
use Rattle.maps.specs.declared.pages.Purpose.{Purpose}
use Rattle.maps.specs.declared.pages.Place.{Place}
use Rattle.maps.specs.declared.troubles.Trouble.{Trouble}
use Rattle.acts.specs.Acts.{Act, Outcome, fin, stop, done, on_open, on_tested, exec}
use Rattle.strings.specs.Strings.{word_at, along, purpose_of, touches, opens_all, present_all, moving, touched, all_open, all_present, tested}
use Rattle.strings.specs.Copies.{InMemory, lead, place_in, carried}
use Rattle.acts.specs.declared.record.Registers.{Registers}
use Rattle.acts.specs.declared.replies.Refusal.{Refusal}
use Rattle.strings.specs.declared.moves.Move.{Move}
use Rattle.strings.specs.declared.strings.Element.{Element}
use Rattle.strings.specs.declared.strings.Element.TheVariants.{Word, Byte}
use Rattle.std.specs.Prelude.{Result, Ok, Err}

pub never : {X : Type 0} → ◌≡◌ {A = ℕ} 0 1 → X
never e = absurd (omega arith)

pub or_false : (b c : Bool) → (b || c) ≡ false → (b ≡ false) × (c ≡ false)
or_false true c e = never (cc)
or_false false c e = (refl, e)

and_true : (b c : Bool) → (b && c) ≡ true → (b ≡ true) × (c ≡ true)
and_true true c e = (refl, e)
and_true false c e = never (cc)

-- what goes on to an end has passed
open_goes : (b : Bool) (x : Outcome) {s : Registers} {m : List ℕ} → on_open b x ≡ done s m → (b ≡ true) × (x ≡ done s m)
open_goes true x e = (refl, e)
open_goes false x e = never (cc)

present_goes : (p : Result Unit Trouble) (x : Outcome) {s : Registers} {m : List ℕ} → on_tested p x ≡ done s m → (p ≡ Ok tt) × (x ≡ done s m)
present_goes (Ok tt) x e = (refl, e)
present_goes (Err Trouble.Closed) x e = never (cc)
present_goes (Err (Trouble.Absent page)) x e = never (cc)
present_goes (Err Trouble.Endless) x e = never (cc)
present_goes (Err Trouble.InRegisters) x e = never (cc)

-- each element of a range is one that an access reaches
unfoldable pub Reaches : List ℕ → ℕ → ℕ → Element → Map → Purpose → ℕ → ℕ → Type 0
Reaches pages wmap size u map purpose at zero = Unit
Reaches pages wmap size u map purpose at (suc n) = InMemory pages wmap size u map purpose at × Reaches pages wmap size u map purpose (along u at 1) n

-- the first element of a range, and the others
pub touches_here : (u : Element) (map : Map) (at n : ℕ) → 0 < n → is_register map (word_at u at) ≡ true → touches u map at n ≡ true
unfolding touches
touches_here u map at zero l e = absurd (omega arith)
touches_here u map at (suc n) l e = rw e

pub touches_on : (u : Element) (map : Map) (at n : ℕ) → 0 < n → is_register map (word_at u at) ≡ false
    → touches u map at n ≡ touches u map (along u at 1) (n - 1)
unfolding touches
touches_on u map at zero l e = absurd (omega arith)
touches_on u map at (suc n) l e = let f : suc n - 1 ≡ n = omega arith in rw (e, f)

pub reaches_on : (pages : List ℕ) (wmap size : ℕ) (u : Element) (map : Map) (purpose : Purpose) (at n : ℕ) → 0 < n
    → Reaches pages wmap size u map purpose at n
    → InMemory pages wmap size u map purpose at × Reaches pages wmap size u map purpose (along u at 1) (n - 1)
unfolding Reaches
reaches_on pages wmap size u map purpose at zero l h = absurd (omega arith)
reaches_on pages wmap size u map purpose at (suc n) l h = let f : n ≡ suc n - 1 = omega arith in (h.0, rw f at h.1)

module _ (pages : List ℕ) where
  spot_memory : (wmap : ℕ) (map : Map) (at : ℕ) → is_register map at ≡ false → spot pages wmap map at ≡ Place.Memory (lead pages wmap map at)
  unfolding spot
  spot_memory wmap map at e = rw e

  pub leads : (wmap size : ℕ) (u : Element) (map : Map) (purpose : Purpose) (at : ℕ) → InMemory pages wmap size u map purpose at
      → place pages wmap map purpose (word_at u at) size ≡ Ok (Place.Memory (lead pages wmap map (word_at u at)))
  leads wmap size u map purpose at h =
      place_reached pages wmap map purpose (word_at u at) size h.allowed h.there ∙ ap Ok (spot_memory wmap map (word_at u at) h.memory)

  module _ (r : Registers) where
    opens_go : (u : Element) (map : Map) (purpose : Purpose) (at n : ℕ) (k : Act) (m : List ℕ) {s : Registers} {l : List ℕ}
        → exec pages (opens_all u map purpose at n k) r m ≡ done s l → exec pages k r m ≡ done s l
    unfolding exec opens_all
    opens_go u map purpose at zero k m e = e
    opens_go u map purpose at (suc n) k m e = opens_go u map purpose (along u at 1) n k m (open_goes (is_open pages r.wmap map purpose (word_at u at)) _ e).1

    presents_go : (u : Element) (map : Map) (at n : ℕ) (k : Act) (m : List ℕ) {s : Registers} {l : List ℕ}
        → exec pages (present_all u map at n k) r m ≡ done s l → exec pages k r m ≡ done s l
    unfolding exec present_all
    presents_go u map at zero k m e = e
    presents_go u map at (suc n) k m e = presents_go u map (along u at 1) n k m (present_goes (presence pages r.wmap map (word_at u at) (length m)) _ e).1

    reaches : (u : Element) (map : Map) (purpose : Purpose) (at n : ℕ) (j k : Act) (m : List ℕ) {s t : Registers} {l o : List ℕ}
        → touches u map at n ≡ false
        → exec pages (opens_all u map purpose at n j) r m ≡ done s l
        → exec pages (present_all u map at n k) r m ≡ done t o
        → Reaches pages r.wmap (length m) u map purpose at n
    unfolding exec touches opens_all present_all Reaches
    reaches u map purpose at zero j k m d e f = tt
    reaches u map purpose at (suc n) j k m d e f =
        let x = or_false (is_register map (word_at u at)) _ d in
        let y = open_goes (is_open pages r.wmap map purpose (word_at u at)) _ e in
        let z = present_goes (presence pages r.wmap map (word_at u at) (length m)) _ f in
        (record { memory = x.0; allowed = y.0; there = z.0 }, reaches u map purpose (along u at 1) n j k m x.1 y.1 z.1)

    -- each element of both ranges, where the tests of a move succeed
    pub ready : (j : Move) (m : List ℕ) {t : Registers} {l : List ℕ}
        → exec pages (tested j (fin (λ q. q))) r m ≡ done t l
        → Reaches pages r.wmap (length m) j.element j.from Purpose.Read j.source j.count
        × Reaches pages r.wmap (length m) j.element j.to (purpose_of j.element) j.target j.count
    unfolding exec
    ready j m {t} {l} e =
        go (touches j.element j.from j.source j.count) (touches j.element j.to j.target j.count) refl refl e
      where
        go : (x y : Bool) → touches j.element j.from j.source j.count ≡ x → touches j.element j.to j.target j.count ≡ y
            → exec pages (cond (x || y) (stop Refusal.InRegisters) (all_open j (all_present j (fin (λ q. q))))) r m ≡ done t l
            → Reaches pages r.wmap (length m) j.element j.from Purpose.Read j.source j.count
            × Reaches pages r.wmap (length m) j.element j.to (purpose_of j.element) j.target j.count
        go true y a b f = never (cc)
        go false true a b f = never (cc)
        go false false a b f =
            let g = opens_go j.element j.from Purpose.Read j.source j.count _ m f in
            let h = opens_go j.element j.to (purpose_of j.element) j.target j.count _ m g in
            let i = presents_go j.element j.from j.source j.count _ m h in (
              reaches j.element j.from Purpose.Read j.source j.count _ _ m a f h,
              reaches j.element j.to (purpose_of j.element) j.target j.count _ _ m b g i,
            )

    -- the tests of a move told to succeed
    pub passes : (j : Move) (m : List ℕ) (k : Act) {x o : Bool} {p : Result Unit Trouble}
        → x ≡ touched j → x ≡ false
        → ((m : List ℕ) (k : Act) → exec pages (all_open j k) r m ≡ on_open o (exec pages k r m))
        → o ≡ true
        → ((k : Act) → exec pages (all_present j k) r m ≡ on_tested p (exec pages k r m))
        → p ≡ Ok tt
        → exec pages (tested j k) r m ≡ exec pages k r m
    passes j m k e g h i q l = rw (← e, g) (h m _ ∙ (rw i (q k ∙ (rw l))))

    -- one element moved, whose word and whose target an access reaches
    pub move_one : (u : Element) (from to : Map) (s d n : ℕ) (k : Act) (m : List ℕ)
        → InMemory pages r.wmap (length m) u from Purpose.Read s
        → InMemory pages r.wmap (length m) u to (purpose_of u) d
        → exec pages (moving u from to s d (suc n) k) r m
        ≡ exec pages (moving u from to (along u s 1) (along u d 1) n k) r
        (carried u (place_in u (lead pages r.wmap from (word_at u s)) s) (place_in u (lead pages r.wmap to (word_at u d)) d) m)
    unfolding exec moving fetched
    move_one Word from to s d n k m a b =
        rw (leads r.wmap (length m) Word from Purpose.Read s a, leads r.wmap (length m) Word to Purpose.Store d b)
    move_one Byte from to s d n k m a b =
        let i = lead pages r.wmap from (word_at Byte s) in
        let j = lead pages r.wmap to (word_at Byte d) in
        let o = and_true (is_open pages r.wmap to Purpose.Read (word_at Byte d)) _ (sym (open_both pages r.wmap to (word_at Byte d)) ∙ b.allowed) in
        let x = leads r.wmap (length m) Byte to Purpose.Read d (record { memory = b.memory; allowed = o.0; there = b.there }) in
        let y = leads r.wmap (length m) Byte to Purpose.Store d (record { memory = b.memory; allowed = o.1; there = b.there }) in
        let e : (i * 2 + s % 2) / 2 ≡ i = omega arith in
        let f : (j * 2 + d % 2) / 2 ≡ j = omega arith in
        let g : (i * 2 + s % 2) % 2 ≡ s % 2 = omega arith in
        let h : (j * 2 + d % 2) % 2 ≡ d % 2 = omega arith in
        rw (leads r.wmap (length m) Byte from Purpose.Read s a, x, y, e, f, g, h)
