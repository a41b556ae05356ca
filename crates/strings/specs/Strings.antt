-- Words and bytes, single and in strings: LBT, SBT, MVW, MBT, CMW, CBT; and the masks SBS, CBS, TBS. A move is stated for any
-- two maps and for words and bytes alike.
--     word_at, along, value_of, purpose_of      an element of a string: its word, the next, its value, what storing it needs
--     touches, opens_all, present_all, moving  a range: reply 5, protection, presence; the move itself
--     touched .. tested                      the tests before a move
--     carrying, moved, past_ranges, comparing    the whole of a move, and of a comparison
--     Compares, concluded                    what functions promise of one pair, and what follows a comparison
--     byte_loaded, byte_stored, move_act, compare_act, mask_act    the instructions
-- Assumes nothing.
use Rattle.std.specs.Prelude.{◌≡◌, ℕ, zero, suc, ◌+◌, ◌%◌, Bool, false, cond, not, ◌||◌, List, ◌==◌, bit_or, Result, Ok, Err}
use Rattle.word.specs.Words.{bit, weight, byte_of, with_byte, bits_cleared, every_bit_set}
use Rattle.word.specs.Sums.{address}
use Rattle.word.specs.Orders.{order_of_words, order_of_bytes}
use Rattle.std.specs.declared.cmp.Ordering.{Ordering}
use Rattle.maps.specs.Pages.{is_register}
use Rattle.maps.specs.Bytes.{byte_word, is_low_byte}
use Rattle.maps.specs.declared.pages.Map.{Map}
use Rattle.maps.specs.declared.pages.Map.TheVariants.{Execute}
use Rattle.maps.specs.declared.pages.Purpose.{Purpose}
use Rattle.maps.specs.declared.troubles.Trouble.{Trouble}
use Rattle.code.specs.declared.codes.Bits.{Bits}
use Rattle.code.specs.declared.codes.Bits.TheVariants.{Sbs, Cbs, Tbs}
use Rattle.acts.specs.Record.{with_a, with_b, ahead}
use Rattle.acts.specs.Acts.{Act, Outcome, fin, stop, load, save, opened, present, operand, exec, troubled, go_on}
use Rattle.acts.specs.declared.record.Registers.{Registers}
use Rattle.acts.specs.declared.replies.Refusal.{Refusal}
use Rattle.strings.specs.declared.moves.Move.{Move}
use Rattle.strings.specs.declared.strings.Element.{Element}
use Rattle.strings.specs.declared.strings.Element.TheVariants.{Word, Byte}

-- 01: "Word addresses keep 15 bits .., byte addresses 16."
abbrev pub word_at : Element → ℕ → ℕ
word_at Word at = at % 0o100000
word_at Byte at = byte_word at

abbrev pub along : Element → ℕ → ℕ → ℕ
along Word at n = (at + n) % 0o100000
along Byte at n = (at + n) % 0o200000

-- the element at an address, of the word that holds it
abbrev pub value_of : Element → ℕ → ℕ → ℕ
value_of Word at w = w
value_of Byte at w = byte_of (is_low_byte at) w

-- 01: "A byte store needs the page open to reading and to storing (here)."
abbrev pub purpose_of : Element → Purpose
purpose_of Word = Purpose.Store
purpose_of Byte = Purpose.Both

-- a byte is stored into its word, whose other half stays
abbrev pub saving : Element → Map → ℕ → ℕ → Act → Act
saving Word map at v k = save map (word_at Word at) v k
saving Byte map at v k = load map (word_at Byte at) (λ w. save map (word_at Byte at) (with_byte (is_low_byte at) w v) k)

-- 01, reply 5: an element "lies in word 0 or 1 of the Execute map"
unfoldable pub touches : Element → Map → ℕ → ℕ → Bool
touches u map at zero = false
touches u map at (suc n) = is_register map (word_at u at) || touches u map (along u at 1) n

unfoldable pub opens_all : Element → Map → Purpose → ℕ → ℕ → Act → Act
opens_all u map purpose at zero k = k
opens_all u map purpose at (suc n) k = opened map purpose (word_at u at) (opens_all u map purpose (along u at 1) n k)

unfoldable pub present_all : Element → Map → ℕ → ℕ → Act → Act
present_all u map at zero k = k
present_all u map at (suc n) k = present map (word_at u at) (present_all u map (along u at 1) n k)

-- 01: "one word or byte after another, upward, each seeing the earlier stores"
unfoldable pub moving : Element → Map → Map → ℕ → ℕ → ℕ → Act → Act
moving u from to s d zero k = k
moving u from to s d (suc n) k =
    load from (word_at u s) (λ w. saving u to d (value_of u s w) (moving u from to (along u s 1) (along u d 1) n k))

-- 01: "Before the first store the whole ranges are tested: reply 5, then 1, then 4."
abbrev pub touched : Move → Bool
touched j = touches j.element j.from j.source j.count || touches j.element j.to j.target j.count

abbrev pub all_open : Move → Act → Act
all_open j k =
    opens_all j.element j.from Purpose.Read j.source j.count
    (opens_all j.element j.to (purpose_of j.element) j.target j.count k)

abbrev pub all_present : Move → Act → Act
all_present j k = present_all j.element j.from j.source j.count (present_all j.element j.to j.target j.count k)

abbrev pub tested : Move → Act → Act
tested j k = cond (touched j) (stop Refusal.InRegisters) (all_open j (all_present j k))

abbrev pub carrying : Move → Act → Act
carrying j k = moving j.element j.from j.to j.source j.target j.count k

abbrev pub moved : Move → Act → Act
moved j k = tested j (carrying j k)

-- "A and B end past their ranges."
abbrev pub past_ranges : Move → Registers → Registers
past_ranges j r =
    ahead 3 (with_b (with_a r (along j.element j.source j.count)) (along j.element j.target j.count))

abbrev pub order_of : Element → ℕ → ℕ → Ordering
order_of Word v w = order_of_words v w
order_of Byte v w = order_of_bytes v w

abbrev pub on_order : Ordering → Act → Act → Act → Act
on_order Ordering.Less smaller equal greater = smaller
on_order Ordering.Equal smaller equal greater = equal
on_order Ordering.Greater smaller equal greater = greater

-- the word that holds an element: reply 5 before the access's own tests
abbrev pub load_element : Element → ℕ → (ℕ → Act) → Act
load_element u at k = cond (is_register Execute (word_at u at)) (stop Refusal.InRegisters) (load Execute (word_at u at) k)

-- 01: "per pair the first array's element is tested (5, 1, 4), then the second's"
abbrev pub pairing : Element → ℕ → ℕ → (Ordering → Act) → Act
pairing u s d k = load_element u s (λ v. load_element u d (λ w. k (order_of u (value_of u s v) (value_of u d w))))

-- 01: "A stays at the difference, B ends past its range. All equal: both end past."
abbrev pub compared : ℕ → ℕ → ℕ → Registers → Registers
compared n at end r = ahead n (with_b (with_a r at) end)

-- 01: "nothing past the first difference is read .. Equal: P+3; first smaller: P+4; greater: P+5."
unfoldable pub comparing : Element → ℕ → ℕ → ℕ → ℕ → Act
comparing u end s d zero = fin (compared 3 s end)
comparing u end s d (suc n) =
    pairing u s d (λ o. on_order o (fin (compared 4 s end)) (comparing u end (along u s 1) (along u d 1) n) (fin (compared 5 s end)))

-- what a function promises of one pair: however the comparison goes on, it does so with the order, or has ended
abbrev pub on_compared : Result Ordering Trouble → (Ordering → Outcome) → Outcome
on_compared (Ok o) k = k o
on_compared (Err t) k = troubled t

pub record Compares (pages : List ℕ) (u : Element) (s d : ℕ) (r : Registers) (m : List ℕ) (g : Result Ordering Trouble) : Type 0 where
  pub goes : (k : Ordering → Act) → exec pages (pairing u s d k) r m ≡ on_compared g (λ o. exec pages (k o) r m)

-- the registers that follow a comparison, by what it found and where
abbrev pub concluded : Ordering → ℕ → ℕ → Registers → Registers
concluded Ordering.Equal at end r = compared 3 at end r
concluded Ordering.Less at end r = compared 4 at end r
concluded Ordering.Greater at end r = compared 5 at end r

-- 01, LBT and SBT: "byte address in B, even is the high byte; B rises by one. LBT clears A's high byte."
abbrev pub byte_loaded : Registers → Act
byte_loaded r = load_element Byte r.b (λ w. fin (λ t. ahead 1 (with_b (with_a t (value_of Byte r.b w)) (along Byte r.b 1))))

abbrev pub byte_stored : Registers → Act
byte_stored r =
    cond (is_register Execute (word_at Byte r.b)) (stop Refusal.InRegisters)
    (opened Execute Purpose.Both (word_at Byte r.b)
    (saving Byte Execute r.b (r.a % 256) (fin (λ t. ahead 1 (with_b t (along Byte r.b 1))))))

-- 01: "word two addresses the count, word three is neither read nor written .. Count 0 or with bit 15 set: only P moves, by 3."
abbrev pub none_to_do : ℕ → Bool
none_to_do c = c == 0 || bit 15 c

abbrev pub count : Registers → (ℕ → Act) → Act
count r k = operand 1 r (λ m. load Execute m k)

abbrev pub counted : Registers → (ℕ → Act) → Act
counted r k = count r (λ c. cond (none_to_do c) (go_on (address r.p 3)) (k c))

abbrev pub move_act : Element → Registers → Act
move_act u r =
    counted r (λ c. let j : Move = record { element = u; from = Execute; to = Execute; source = r.a; target = r.b; count = c } in
    moved j (fin (past_ranges j)))

abbrev pub compare_act : Element → Registers → Act
compare_act u r = counted r (λ c. comparing u (along u r.b c) (along u r.a 0) (along u r.b 0) c)

-- 01: "SBS, CBS, TBS: word two addresses the mask, word three the target. TBS skips unless every masked bit is set."
abbrev pub masked : Bits → Registers → ℕ → ℕ → ℕ → Act
masked Sbs r mask w at = save Execute at (bit_or w mask) (go_on (address r.p 3))
masked Cbs r mask w at = save Execute at (bits_cleared mask w) (go_on (address r.p 3))
masked Tbs r mask w at = go_on (address r.p (3 + weight (not (every_bit_set mask w))))

abbrev pub mask_act : Bits → Registers → Act
mask_act x r = operand 1 r (λ m. operand 2 r (λ at. load Execute m (λ mask. load Execute at (λ w. masked x r mask w at))))
