-- How a byte store ends, by where one access that is both a read and a store ends: the tests of `byte_stored` fall together.
--     ended              the result for each place
--     by_tests           over the tests as Booleans
--     byte_stored_lem    `exec` of `byte_stored`
-- Assumes nothing.
use Rattle.std.proofs.Common.{◌≡◌, ℕ, ◌%◌, Bool, true, false, cond, not, ◌&&◌, ◌||◌, eqb, ltb, List, length, get_or, set, refl, ◌∙◌}
use Rattle.word.specs.Words.{with_byte}
use Rattle.maps.specs.Pages.{physical_page, protecting, read_protected, store_protected, register_of, index_in, is_register, is_open, presence, spot, if_present, place}
use Rattle.maps.specs.Access.{held, fetched}
use Rattle.maps.specs.Bytes.{byte_word, is_low_byte}
use Rattle.maps.specs.declared.pages.Map.{Map}
use Rattle.maps.specs.declared.pages.Purpose.{Purpose}
use Rattle.maps.specs.declared.pages.Place.{Place}
use Rattle.maps.specs.declared.troubles.Trouble.{Trouble}
use Rattle.acts.specs.Record.{with_b, ahead}
use Rattle.acts.specs.Acts.{Act, Outcome, done, refused, troubled, on_got, on_place, on_open, exec}
use Rattle.strings.specs.Strings.{along, byte_stored}
use Rattle.acts.specs.declared.record.Registers.{Registers}
use Rattle.acts.specs.declared.replies.Refusal.{Refusal}
use Rattle.strings.specs.declared.strings.Element.{Element}
use Rattle.std.specs.Prelude.{Result, Ok, Err}

abbrev pub ended : Result Place Trouble → Registers → List ℕ → Outcome
ended (Ok Place.A) r m = refused Refusal.InRegisters
ended (Ok Place.B) r m = refused Refusal.InRegisters
ended (Ok (Place.Memory i)) r m =
    done (ahead 1 (with_b r (along Element.Byte r.b 1))) (set m i (with_byte (is_low_byte r.b) (get_or m i 0) (r.a % 256)))
ended (Err t) r m = troubled t

-- an access whose page is shut or not
abbrev reach : Bool → Bool → Bool → Bool → ℕ → ℕ → Result Place Trouble
reach register first shut inside i page =
    cond (register || not shut)
    (if_present (cond (register || inside) (Ok tt) (Err (Trouble.Absent page))) (cond register (cond first Place.A Place.B) (Place.Memory i)))
    (Err Trouble.Closed)

by_tests : (register first on reads stores inside : Bool) (i page : ℕ) (r : Registers) (m : List ℕ)
    → cond register (refused Refusal.InRegisters)
    (on_open (register || not (on && (reads || stores)))
    (on_got (held (reach register first (on && reads) inside i page) m r.a r.b)
    (λ w. on_place (reach register first (on && stores) inside i page) (with_byte (is_low_byte r.b) w (r.a % 256))
    (λ s n. done (ahead 1 (with_b s (along Element.Byte r.b 1))) n) r m)))
    ≡ ended (reach register first (on && (reads || stores)) inside i page) r m
by_tests true true on reads stores inside i page r m = refl
by_tests true false on reads stores inside i page r m = refl
by_tests false first true true stores inside i page r m = refl
by_tests false first true false true inside i page r m = refl
by_tests false first true false false true i page r m = refl
by_tests false first true false false false i page r m = refl
by_tests false first false reads stores true i page r m = refl
by_tests false first false reads stores false i page r m = refl

exec_cond : (pages : List ℕ) (b : Bool) (x y : Act) (r : Registers) (m : List ℕ)
    → exec pages (cond b x y) r m ≡ cond b (exec pages x r m) (exec pages y r m)
exec_cond pages true x y r m = refl
exec_cond pages false x y r m = refl

pub byte_stored_lem : (pages : List ℕ) (r : Registers) (m : List ℕ)
    → exec pages (byte_stored r) r m ≡ ended (place pages r.wmap Map.Execute Purpose.Both (byte_word r.b) (length m)) r m
unfolding exec fetched place is_open presence spot
byte_stored_lem pages r m =
    let at = byte_word r.b in
    let register = register_of pages r.wmap Map.Execute at in
    exec_cond pages (is_register Map.Execute at) _ _ r m
    ∙ by_tests (is_register Map.Execute at) (eqb (at % 0o100000) 0) (protecting r.wmap) (read_protected register) (store_protected register) (ltb (index_in register at) (length m)) (index_in register at) (physical_page register) r m
