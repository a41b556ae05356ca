-- The definitions, computed: 01's cases that this layer meets, values that tell near misses apart, and long chains.
--     fields to stores         WMAP's maps; A and B; the two tests; places, reads and stores over one small board
--     c13, byte_ends           byte addresses
--     itself, links            C14, whose cell names itself; where other chains end
--     longest, too_long        the longest chain that ends: 32,767 words that ask, and one that does not; one word more
-- Assumes nothing.
use Prim.Native.Nat.{ℕ, zero, suc, ◌<◌, ◌≤◌, ◌+◌, ◌*◌, ◌/◌, ◌%◌}
use native.Mathlib.Omega.{arith}
use mathlib.Core.Path.{◌≡◌, refl, ◌∙◌, ap, fun_ext}
use mathlib.Core.Bool.{true, false}
use mathlib.Core.List.{List, [], ◌∷◌}
use lib.ListN.{length, get_or, set, replicate}
use borrow.Author.Tests.{lt-ltb, le-ltb}
use Rattle.maps.specs.Pages.{map_number, is_register, is_open, presence, spot, place}
use Rattle.maps.specs.Access.{held, fetched, put}
use Rattle.maps.specs.Chains.{chased, execute_word, chain}
use Rattle.maps.specs.Bytes.{byte_word, is_low_byte}
use Rattle.maps.proofs.Laws.{place_a, place_b}
use Rattle.maps.specs.declared.pages.Map.{Map}
use Rattle.maps.specs.declared.pages.Purpose.{Purpose}
use Rattle.maps.specs.declared.pages.Place.{Place}
use Rattle.maps.specs.declared.troubles.Trouble.{Trouble}
use Rattle.std.specs.Prelude.{Result, Ok, Err}

-- Execute 1, DATA1 2, DATA2 3
pub fields : (map_number Map.Execute 0o6101 ≡ 1) × (map_number Map.Data1 0o6101 ≡ 2) × (map_number Map.Data2 0o6101 ≡ 3)
fields = (refl, refl, refl)

pub registers : (is_register Map.Execute 1 ≡ true) × (is_register Map.Execute 0o100001 ≡ true) × (is_register Map.Execute 2 ≡ false)
    × (is_register Map.Data1 0 ≡ false) × (is_register Map.Data2 1 ≡ false)
registers = (refl, refl, refl, refl, refl)

-- map 0 of the board: page 1 read-protected, page 1 store-protected, page 5 closed to both, page 5 open; no register more.
-- Two pages of memory. All three maps are map 0, `on` with protection.
abbrev board : List ℕ
board = 0o100001 ∷ 0o40001 ∷ 0o140005 ∷ 5 ∷ []

abbrev on : ℕ
on = 0o100000

-- a page closed to reading may be open to storing; a byte store asks for both; A is never closed, word 0 of DATA1 can be
pub opens : (is_open board on Map.Execute Purpose.Read 2 ≡ false) × (is_open board on Map.Execute Purpose.Store 2 ≡ true)
    × (is_open board on Map.Execute Purpose.Both 2 ≡ false)
    × (is_open board on Map.Execute Purpose.Read 0o2000 ≡ true) × (is_open board on Map.Execute Purpose.Store 0o2000 ≡ false)
    × (is_open board on Map.Execute Purpose.Both 0o2000 ≡ false)
    × (is_open board on Map.Execute Purpose.Both 0 ≡ true) × (is_open board on Map.Data1 Purpose.Read 0 ≡ false)
    × (is_open board 0 Map.Execute Purpose.Both 0o4000 ≡ true)
unfolding is_open
opens = (refl, refl, refl, refl, refl, refl, refl, refl, refl)

-- the last word of memory; an absent page by its 14 bits; a page register that is not lent names page 0; A of no memory
pub presences : (presence board on Map.Execute 0o3777 2048 ≡ Ok tt)
    × (presence board on Map.Execute 0o4000 2048 ≡ Err (Trouble.Absent 5))
    × (presence board on Map.Execute 0o10000 2048 ≡ Ok tt)
    × (presence board on Map.Execute 0 0 ≡ Ok tt) × (presence board on Map.Data1 0 0 ≡ Err (Trouble.Absent 1))
unfolding presence
presences = (refl, refl, refl, refl, refl)

-- closed and absent is closed; with protection off absent; word 1 is B in Execute, memory in DATA1; bit 15 counts nowhere
pub places : (place board on Map.Execute Purpose.Read 0o4000 2048 ≡ Err Trouble.Closed)
    × (place board 0 Map.Execute Purpose.Read 0o4000 2048 ≡ Err (Trouble.Absent 5))
    × (place board on Map.Execute Purpose.Store 0 2048 ≡ Ok Place.A) × (place board on Map.Execute Purpose.Store 1 2048 ≡ Ok Place.B)
    × (place board on Map.Data1 Purpose.Store 1 2048 ≡ Ok (Place.Memory 1025))
    × (place board on Map.Execute Purpose.Read 0o102005 2048 ≡ Ok (Place.Memory 1029))
unfolding place is_open presence spot
places = (refl, refl, refl, refl, refl, refl)

pub reads_of : (fetched board (set (replicate 2048 0) 1029 7) on Map.Execute 0o2005 11 12 ≡ Ok 7)
    × (fetched board (replicate 2048 0) on Map.Execute 0 11 12 ≡ Ok 11)
    × (fetched board (replicate 2048 0) on Map.Execute 1 11 12 ≡ Ok 12)
    × (fetched board (replicate 2048 0) on Map.Data1 1 11 12 ≡ Err Trouble.Closed)
    × (fetched board (replicate 2048 0) 0 Map.Data1 1 11 12 ≡ Ok 0)
    × (fetched board (replicate 2048 0) on Map.Data1 0o6000 11 12 ≡ Err (Trouble.Absent 5))
unfolding fetched place is_open presence spot
reads_of = (refl, refl, refl, refl, refl, refl)

pub stores : (put (Ok (Place.Memory 1)) (1 ∷ 2 ∷ 3 ∷ []) 9 ≡ 1 ∷ 9 ∷ 3 ∷ []) × (put (Ok Place.A) (1 ∷ 2 ∷ []) 9 ≡ 1 ∷ 2 ∷ [])
    × (put (Err Trouble.Closed) (1 ∷ 2 ∷ []) 9 ≡ 1 ∷ 2 ∷ [])
stores = (refl, refl, refl)

-- 01: "C13 SBT, B 000041, A 000001, word 20 holding 123456: word 20 is 123401"
pub c13 : (byte_word 0o41 ≡ 0o20) × (is_low_byte 0o41 ≡ true)
c13 = (refl, refl)

pub byte_ends : (byte_word 0o177777 ≡ 0o77777) × (is_low_byte 0o177777 ≡ true) × (byte_word 4 ≡ 2) × (is_low_byte 4 ≡ false)
byte_ends = (refl, refl, refl, refl)

-- 01: "C14 160100 with word 100 holding 100100: reply 3."
pub itself : chain (replicate 1024 0) (set (replicate 1024 0) 0o100 0o100100) 0 0o100100 0 0 ≡ Err Trouble.Endless
unfolding chain chased fetched place is_open presence spot
itself = refl

-- bit 15 clear; A as the next word; A that names itself; a closed word met first, and with protection off an absent one
pub links : (chain board (replicate 2048 0) on 0o4000 0 0 ≡ Ok 0o4000)
    × (chain board (replicate 2048 0) on 0o100000 0o77 0 ≡ Ok 0o77)
    × (chain board (replicate 2048 0) on 0o100000 0o100000 0 ≡ Err Trouble.Endless)
    × (chain board (replicate 2048 0) on 0o104000 0 0 ≡ Err Trouble.Closed)
    × (chain board (replicate 2048 0) 0 0o104000 0 0 ≡ Err (Trouble.Absent 5))
unfolding chain chased fetched place is_open presence spot
links = (refl, refl, refl, refl, refl)

-- each word asks for the word below it, down to A, which asks for nothing
descending : chased (λ address. Ok (0o77777 + address % 0o100000)) 32768 0o177777 ≡ Ok 0o77777
unfolding chased
descending = refl

pub rising : ℕ → ℕ → List ℕ
rising zero first = []
rising (suc count) first = first ∷ rising count (suc first)

get_d_rising : (count first i : ℕ) → i < count → get_or (rising count first) i 0 ≡ first + i
unfolding rising
get_d_rising zero first i l = absurd (omega arith)
get_d_rising (suc count) first zero l = omega arith
get_d_rising (suc count) first (suc i) l = get_d_rising count (suc first) i (omega arith) ∙ omega arith

length_rising : (count first : ℕ) → length (rising count first) ≡ count
unfolding rising
length_rising zero first = refl
length_rising (suc count) first = ap suc (length_rising count (suc first))

-- page registers that name page n for page n, and 32 pages of memory whose word n holds 077777 + n
placed : (address : ℕ) → 2 ≤ address % 0o100000
    → place (rising 32 0) 0 Map.Execute Purpose.Read address 32768 ≡ Ok (Place.Memory (address % 0o100000))
unfolding place is_open presence spot
placed address l =
    let r : get_or (rising 32 0) (0 + address / 1024 % 32) 0 ≡ address / 1024 % 32 =
    get_d_rising 32 0 (0 + address / 1024 % 32) (omega arith) ∙ omega arith in
    let i : address / 1024 % 32 % 0o40000 * 1024 + address % 1024 ≡ address % 0o100000 = omega arith in
    rw (le-ltb (address % 0o100000) 2 l, r, i, lt-ltb (address % 0o100000) 32768 (omega arith))

reads : (address : ℕ)
    → execute_word (rising 32 0) (rising 32768 0o77777) 0 0o77777 0o100000 address ≡ Ok (0o77777 + address % 0o100000)
unfolding fetched
reads address = rw length_rising (go (address % 0o100000) refl)
  where
    go : (x : ℕ) → address % 0o100000 ≡ x
        → held (place (rising 32 0) 0 Map.Execute Purpose.Read address 32768) (rising 32768 0o77777) 0o77777 0o100000
        ≡ Ok (0o77777 + address % 0o100000)
    go zero e = rw (place_a (rising 32 0) 0 Purpose.Read address 32768 e, e)
    go (suc zero) e = rw (place_b (rising 32 0) 0 Purpose.Read address 32768 e, e)
    go (suc (suc x)) e =
        rw (placed address (omega arith)) (ap Ok (get_d_rising 32768 0o77777 (address % 0o100000) (omega arith)))

pub longest : chain (rising 32 0) (rising 32768 0o77777) 0 0o177777 0o77777 0o100000 ≡ Ok 0o77777
unfolding chain
longest = ap (λ (read : ℕ → Result ℕ Trouble). chased read 32768 0o177777) (fun_ext reads) ∙ descending

pub too_long : chased (λ address. Ok (0o100000 + (0o77777 + address) % 0o100000)) 32768 0o177777 ≡ Err Trouble.Endless
unfolding chased
too_long = refl
