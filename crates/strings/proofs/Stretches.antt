-- Elements that lie on one page, a stretch of them at a time.
--     along_on, OnPage, page_on       the elements of a stretch, and their page
--     first_past                      the first trouble of a range: that of the last element of a stretch, or it lies past it
--     passed                          a range whose every word passes a test
--     open_told, present_told         protection and presence are told by pages
--     opens_first, presents_first     `exec` of the tests of a range, by its first trouble
-- Assumes nothing.
use Rattle.std.proofs.Common.{◌≡◌, ℕ, zero, suc, ◌+◌, ◌-◌, ◌/◌, ◌%◌, ◌<◌, ◌≤◌, Bool, true, false, ltb, ◌⊎◌, List, length, sym, refl, ap, ◌∙◌, inl, inr, arith, ltb-false, ltb-true, le-ltb}
use Rattle.maps.specs.Pages.{physical_page, register_of, page_register, index_in, is_register, is_open, presence}
use Rattle.maps.proofs.Laws.{open_by_page}
use Rattle.maps.specs.declared.pages.Map.{Map}
use Rattle.maps.specs.declared.pages.Purpose.{Purpose}
use Rattle.maps.specs.declared.troubles.Trouble.{Trouble}
use Rattle.acts.specs.Acts.{Act, Outcome, on_open, on_tested, exec}
use Rattle.strings.specs.Strings.{word_at, along, opens_all, present_all}
use Rattle.strings.specs.Copies.{per_page, Stretch, met_first, first_trouble, ToldByPages}
use Rattle.acts.specs.declared.record.Registers.{Registers}
use Rattle.strings.specs.declared.strings.Element.{Element}
use Rattle.strings.specs.declared.strings.Element.TheVariants.{Word, Byte}
use Rattle.std.specs.Prelude.{Result, Ok, Err}

pub along_on : (u : Element) (at j : ℕ) → along u (along u at 1) j ≡ along u at (suc j)
along_on Word at j = omega arith
along_on Byte at j = omega arith

-- y lies j elements past x, on the same page
pub record OnPage (u : Element) (j x y : ℕ) : Type 0 where
  pub next : y % per_page u ≡ x % per_page u + j
  pub page : word_at u x / 1024 % 32 ≡ word_at u y / 1024 % 32
  pub rises : word_at u x % 1024 ≤ word_at u y % 1024

-- a byte's page, and its word's offset there
bytes_page : (x : ℕ) → x / 2 / 1024 % 32 ≡ x / 2048 % 32
bytes_page x = omega arith

bytes_offset : (x : ℕ) → x / 2 % 1024 ≡ x % 2048 / 2
bytes_offset x = omega arith

pub page_on : (u : Element) (at j : ℕ) → at % per_page u + j < per_page u → OnPage u j at (along u at j)
page_on Word at j l = record { next = omega arith; page = omega arith; rises = omega arith }
page_on Byte at j l =
    let y = (at + j) % 0o200000 in
    let e : (at + j) / 2048 ≡ at / 2048 = omega arith in
    let f : y / 2048 % 32 ≡ (at + j) / 2048 % 32 = omega arith in
    let g : y % 2048 ≡ at % 2048 + j = omega arith in
    record {
      next = g;
      page = bytes_page at ∙ (rw (← e) (sym f)) ∙ sym (bytes_page y);
      rises = rw (bytes_offset at, bytes_offset y) (omega arith);
    }

pub along_fits : (u : Element) (at n : ℕ) → along u at n < 65536
along_fits Word at n = omega arith
along_fits Byte at n = omega arith

start : (u : Element) (at : ℕ) → at < 65536 → word_at u (along u at 0) ≡ word_at u at
start Word at b = omega arith
start Byte at b = ap (λ (x : ℕ). x / 2) (omega arith)

module _ (test : ℕ → Result Unit Trouble) (h : ToldByPages test) (u : Element) where
  first_on : (at n : ℕ) → 0 < n → first_trouble test u at n ≡ met_first (test (word_at u at)) (first_trouble test u (along u at 1) (n - 1))
  unfolding first_trouble
  first_on at zero l = absurd (omega arith)
  first_on at (suc n) l = let f : suc n - 1 ≡ n = omega arith in rw f

  first_stretch : (at j n : ℕ) → at < 65536 → suc j ≤ n → at % per_page u + suc j ≤ per_page u
      → first_trouble test u at n ≡ met_first (test (word_at u (along u at j))) (first_trouble test u (along u at (suc j)) (n - suc j))
  first_stretch at zero n b l p =
      first_on at n (omega arith) ∙ ap (λ (w : ℕ). met_first (test w) (first_trouble test u (along u at 1) (n - 1))) (sym (start u at b))
  first_stretch at (suc j) n b l p =
      let v = page_on u at (suc j) (omega arith) in
      let g = page_on u at 1 (omega arith) in
      let o : n - 1 - suc j ≡ n - suc (suc j) = omega arith in
      let e = first_stretch (along u at 1) j (n - 1) (along_fits u at 1) (omega arith) (omega (arith, g.next)) in
      go _ _ (rw (along_on u at j, along_on u at (suc j), o) at e) (h.told (word_at u at) (word_at u (along u at (suc j))) v.page v.rises)
    where
      go : (p z : Result Unit Trouble) → first_trouble test u (along u at 1) (n - 1) ≡ met_first p z
          → (test (word_at u at) ≡ Ok tt) ⊎ (test (word_at u at) ≡ p)
          → first_trouble test u at n ≡ met_first p z
      go p z e (inl f) = first_on at n (omega arith) ∙ (rw f e)
      go (Ok tt) z e (inr f) = first_on at n (omega arith) ∙ (rw f e)
      go (Err t) z e (inr f) = first_on at n (omega arith) ∙ (rw f)

  pub first_past : (at n t : ℕ) {last w : ℕ} {p p' : Result Unit Trouble} → at < 65536 → 0 < n → Stretch u at n t
      → last ≡ along u at (t - 1) → w ≡ word_at u last → p ≡ test w → p ≡ p'
      → first_trouble test u at n ≡ met_first p' (first_trouble test u (along u at t) (n - t))
  first_past at n zero b l s c d e f = absurd (omega (arith, s.some l))
  first_past at n (suc j) b l s c d e f =
      let o : suc j - 1 ≡ j = omega arith in
      let c' = rw o at c in
      rw (← f, e, d, c') (first_stretch at j n b s.within s.page)

pub passed : (test : ℕ → Result Unit Trouble) → ((x : ℕ) → test x ≡ Ok tt) → (u : Element) (at n : ℕ) → first_trouble test u at n ≡ Ok tt
unfolding first_trouble
passed test h u at zero = refl
passed test h u at (suc n) = rw (h (word_at u at)) (passed test h u (along u at 1) n)

-- the test of protection as one that meets trouble
abbrev pub opening : Bool → Result Unit Trouble
opening true = Ok tt
opening false = Err Trouble.Closed

-- on a page, what lies above a word of memory is no register
memory_above : (map : Map) (x y : ℕ) → x / 1024 % 32 ≡ y / 1024 % 32 → x % 1024 ≤ y % 1024 → is_register map x ≡ false → is_register map y ≡ false
memory_above Map.Execute x y same l e = le-ltb (y % 0o100000) 2 (omega (arith, ltb-false (x % 0o100000) 2 e))
memory_above Map.Data1 x y same l e = refl
memory_above Map.Data2 x y same l e = refl

module _ (pages : List ℕ) (wmap : ℕ) where
  pub open_told : (map : Map) (purpose : Purpose) → ToldByPages (λ x. opening (is_open pages wmap map purpose x))
  unfolding is_open
  open_told map purpose = record { told = λ x y same l. go x y same l (is_register map x) refl }
    where
      go : (x y : ℕ) → x / 1024 % 32 ≡ y / 1024 % 32 → x % 1024 ≤ y % 1024 → (b : Bool) → is_register map x ≡ b
          → (opening (is_open pages wmap map purpose x) ≡ Ok tt) ⊎ (opening (is_open pages wmap map purpose x) ≡ opening (is_open pages wmap map purpose y))
      go x y same l true e = inl (rw e)
      go x y same l false e = inr (ap opening (open_by_page pages wmap map x y e (memory_above map x y same l e) same purpose))

  -- below a word that is present each is present; below an absent one the same page may be
  pub present_told : (map : Map) (size : ℕ) → ToldByPages (λ x. presence pages wmap map x size)
  unfolding presence
  present_told map size = record { told = λ x y same l. go x y same l (is_register map x) refl }
    where
      below : (x y : ℕ) → x / 1024 % 32 ≡ y / 1024 % 32 → x % 1024 ≤ y % 1024 → is_register map x ≡ false → is_register map y ≡ false
          → (a b : Bool) → ltb (index_in (register_of pages wmap map x) x) size ≡ a → ltb (index_in (register_of pages wmap map y) y) size ≡ b
          → (presence pages wmap map x size ≡ Ok tt) ⊎ (presence pages wmap map x size ≡ presence pages wmap map y size)
      below x y same l one two true b f g = inl (rw (one, f))
      below x y same l one two false false f g = inr (rw (one, two, f, g, same))
      below x y same l one two false true f g =
          let i = ltb-true _ size g in
          let j = ltb-false (index_in (register_of pages wmap map x) x) size f in
          let q : register_of pages wmap map x ≡ register_of pages wmap map y = ap (page_register pages wmap map) same in
          absurd (omega (arith, ap physical_page q))

      go : (x y : ℕ) → x / 1024 % 32 ≡ y / 1024 % 32 → x % 1024 ≤ y % 1024 → (b : Bool) → is_register map x ≡ b
          → (presence pages wmap map x size ≡ Ok tt) ⊎ (presence pages wmap map x size ≡ presence pages wmap map y size)
      go x y same l true e = inl (rw e)
      go x y same l false e = below x y same l e (memory_above map x y same l e) _ _ refl refl

module _ (pages : List ℕ) (r : Registers) where
  -- the tests of a range as programs end as its first trouble tells
  pub opens_first : (u : Element) (map : Map) (purpose : Purpose) (at n : ℕ) (k : Act) (m : List ℕ)
      → exec pages (opens_all u map purpose at n k) r m
      ≡ on_tested (first_trouble (λ x. opening (is_open pages r.wmap map purpose x)) u at n) (exec pages k r m)
  unfolding exec opens_all first_trouble
  opens_first u map purpose at zero k m = refl
  opens_first u map purpose at (suc n) k m = go (is_open pages r.wmap map purpose (word_at u at)) _ _ (opens_first u map purpose (along u at 1) n k m)
    where
      go : (b : Bool) (p : Result Unit Trouble) (x : Outcome) → x ≡ on_tested p (exec pages k r m)
          → on_open b x ≡ on_tested (met_first (opening b) p) (exec pages k r m)
      go true p x e = e
      go false p x e = refl

  pub presents_first : (u : Element) (map : Map) (at n : ℕ) (k : Act) (m : List ℕ)
      → exec pages (present_all u map at n k) r m
      ≡ on_tested (first_trouble (λ x. presence pages r.wmap map x (length m)) u at n) (exec pages k r m)
  unfolding exec present_all first_trouble
  presents_first u map at zero k m = refl
  presents_first u map at (suc n) k m = go (presence pages r.wmap map (word_at u at) (length m)) _ _ (presents_first u map (along u at 1) n k m)
    where
      go : (b p : Result Unit Trouble) (x : Outcome) → x ≡ on_tested p (exec pages k r m)
          → on_tested b x ≡ on_tested (met_first b p) (exec pages k r m)
      go (Ok tt) p x e = e
      go (Err t) p x e = refl
