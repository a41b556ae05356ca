-- Page registers and WMAP, and where a logical address leads.
--     physical_page, store_protected, read_protected    the fields of a page register
--     execute_map, data1_map, data2_map, protecting     the fields of WMAP
--     switched                                          WMAP after an interrupt
--     map_number, page_register                         the page register of a logical page in one of the three maps
--     register_of, index_in                             the page register of an address, and the word that it names
--     is_register                                       whether an address is A or B
--     closed_to, is_open, presence                      the two tests of an access
--     spot, if_present, place, Reached                  where an access ends
--     number_place                                      the paper's number
-- Page registers and memory are lists of any length, and every number is an address: nothing is asked of them. Not here:
-- what a place holds (`Access`), and what the three current maps leave open as a whole (`Open`).
-- Assumes nothing.
use Rattle.std.specs.Prelude.{ℕ, ◌+◌, ◌*◌, ◌/◌, ◌%◌, Bool, false, cond, not, ◌&&◌, ◌||◌, List, eqb, ltb, get_or}
use Rattle.word.specs.Words.{bit}
use Rattle.maps.specs.declared.pages.Map.{Map}
use Rattle.maps.specs.declared.pages.Map.TheVariants.{Execute, Data1, Data2}
use Rattle.maps.specs.declared.pages.Purpose.{Purpose}
use Rattle.maps.specs.declared.pages.Purpose.TheVariants.{Read, Store, Both}
use Rattle.maps.specs.declared.pages.Place.{Place}
use Rattle.maps.specs.Troubles.{number_trouble}
use Rattle.maps.specs.declared.troubles.Trouble.{Trouble}
use Rattle.std.specs.Prelude.{Result, Ok, Err}

-- 01: "Page register: bits 0 to 13 physical page, bit 14 store-protected, bit 15 read-protected."
abbrev pub physical_page : ℕ → ℕ
physical_page register = register % 0o40000

abbrev pub store_protected : ℕ → Bool
store_protected register = bit 14 register

abbrev pub read_protected : ℕ → Bool
read_protected register = bit 15 register

-- 01: "WMAP: bits 0 to 4 Execute map, 5 to 9 DATA1, 10 to 14 DATA2, bit 15 protection on."
abbrev pub execute_map : ℕ → ℕ
execute_map wmap = wmap % 32

abbrev pub data1_map : ℕ → ℕ
data1_map wmap = wmap / 32 % 32

abbrev pub data2_map : ℕ → ℕ
data2_map wmap = wmap / 1024 % 32

abbrev pub protecting : ℕ → Bool
protecting wmap = bit 15 wmap

-- 01, Violation: "in WMAP the Execute map becomes 0, DATA1 the old Execute map, DATA2 keeps its value (here), protection goes off"
abbrev pub switched : ℕ → ℕ
switched wmap = data2_map wmap * 1024 + execute_map wmap * 32

-- 01: "Page registers: 1,024 lent 16-bit words, 32 maps of 32." One past the lent registers reads as 0.
abbrev pub map_number : Map → ℕ → ℕ
map_number Execute wmap = execute_map wmap
map_number Data1 wmap = data1_map wmap
map_number Data2 wmap = data2_map wmap

abbrev pub page_register : List ℕ → ℕ → Map → ℕ → ℕ
page_register pages wmap map page = get_or pages (map_number map wmap * 32 + page) 0

-- 01: "A logical address has 15 bits: five of page, ten of offset." Bit 15 counts nowhere.
abbrev pub register_of : List ℕ → ℕ → Map → ℕ → ℕ
register_of pages wmap map address = page_register pages wmap map (address / 1024 % 32)

abbrev pub index_in : ℕ → ℕ → ℕ
index_in register address = physical_page register * 1024 + address % 1024

-- 01: "Addresses 0 and 1 in the Execute map are A and B, never protected and never absent. In DATA1 and DATA2 they are memory."
abbrev pub is_register : Map → ℕ → Bool
is_register Execute address = ltb (address % 0o100000) 2
is_register Data1 address = false
is_register Data2 address = false

-- 01: "A byte store needs the page open to reading and to storing (here)."
abbrev pub closed_to : Purpose → ℕ → Bool
closed_to Read register = read_protected register
closed_to Store register = store_protected register
closed_to Both register = read_protected register || store_protected register

-- 01: "With protection on, reading a read-protected page, storing to a store-protected one .. are violations. With protection
-- off there are none".
unfoldable pub is_open : List ℕ → ℕ → Map → Purpose → ℕ → Bool
is_open pages wmap map purpose address =
    is_register map address || not (protecting wmap && closed_to purpose (register_of pages wmap map address))

-- 01, reply 4: "a physical page beyond the lent memory is accessed". `length` is that of memory, in words.
unfoldable pub presence : List ℕ → ℕ → Map → ℕ → ℕ → Result Unit Trouble
presence pages wmap map address length =
    cond (is_register map address || ltb (index_in (register_of pages wmap map address) address) length)
    (Ok tt)
    (Err (Trouble.Absent (physical_page (register_of pages wmap map address))))

-- the register or the word of memory that an address names
unfoldable pub spot : List ℕ → ℕ → Map → ℕ → Place
spot pages wmap map address =
    cond (is_register map address)
    (cond (eqb (address % 0o100000) 0) Place.A Place.B)
    (Place.Memory (index_in (register_of pages wmap map address) address))

-- 01: "Each single access tests protection (1) before presence (4)."
abbrev pub if_present : Result Unit Trouble → Place → Result Place Trouble
if_present (Ok tt) reached = Ok reached
if_present (Err trouble) reached = Err trouble

unfoldable pub place : List ℕ → ℕ → Map → Purpose → ℕ → ℕ → Result Place Trouble
place pages wmap map purpose address length =
    cond (is_open pages wmap map purpose address)
    (if_present (presence pages wmap map address length) (spot pages wmap map address))
    (Err Trouble.Closed)

-- the places of an access that succeeds
pub data Reached : Result Place Trouble → Type 0 where
  at_a : Reached (Ok Place.A)
  at_b : Reached (Ok Place.B)
  at_word : {index : ℕ} → Reached (Ok (Place.Memory index))

-- the paper's number
abbrev pub number_place : Result Place Trouble → ℕ
number_place (Ok reached) = 0
number_place (Err trouble) = number_trouble trouble
