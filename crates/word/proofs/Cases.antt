-- The numbers of 01's cases that this layer fixes, by computation, in 01's order: C1, C2, C6 to C11, C13. What E, O and the
-- registers keep in them is the step's and is not here. Then the ends of the ranges:
--     exchanged                                          a rotate by 16 exchanges B and A
--     lowest_by_negative .. below_lowest_by_negative     the quotients -32,768 and 32,767, and those past them
--     lowest_double, by_zero                             -2,147,483,648 by -1; divisor 0
-- Last, for the definitions that no case above meets, values that tell them from near misses. Assumes nothing.
use Rattle.std.proofs.Common.{◌≡◌, ℕ, Bool, true, false, eqb, [], ◌∷◌, map, pos, negsuc, refl, ap, w16, w32, Some, None}
use lib.Bits.{bit_and, bit_or, bit_xor, and_zero_r}
use Rattle.word.specs.Words.{weight, complemented, byte_of, with_byte, bits_cleared, every_bit_set, joined}
use Rattle.word.specs.Signed.{signed, bits_of}
use Rattle.word.specs.Sums.{sum, incremented, decremented, address}
use Rattle.word.specs.Shifts.{turned, extended, unshifted}
use Rattle.word.specs.Long.{moved, loses, long_shifted}
use Rattle.word.specs.Products.{multiplied, divided}
use Rattle.word.specs.Orders.{order_of_words, order_of_bytes}
use Rattle.word.specs.declared.shifts.ShiftCode.{ShiftCode}
use Rattle.word.specs.declared.shifts.ShiftCode.TheVariants.{Als, Ars, Ral, Rar, Alr, Era, Ela, Alf}
use Rattle.word.specs.declared.long.LongShift.TheVariants.{Asl, Rrl, Asr}
use Rattle.std.specs.declared.cmp.Ordering.TheVariants.{Less, Equal, Greater}

-- "C1 A 077777, INA: A 100000, O set, E kept": no carry
pub c1 : incremented 0o077777 ≡ record { word = 0o100000; carry = false; overflow = true }
unfolding sum
c1 = refl

-- "C2 A 177777, INA: A 0, E set, O kept": no overflow
pub c2 : incremented 0o177777 ≡ record { word = 0; carry = true; overflow = false }
unfolding sum
c2 = refl

-- "C6 000600 with A 100000, E 0: A kept, E 1": the first shift is ELA, disabled
pub c6 : unshifted Ela 0o100000 false ≡ record { word = 0o100000; e = true }
c6 = refl

-- "C7 MPY 100000 by 100000: B 040000, A 0"
pub c7 : multiplied 0o100000 0o100000 ≡ record { b = 0o040000; a = 0 }
unfolding multiplied
c7 = refl

-- "C8 DIV B 177777, A 177771 by 2: A 177775, B 177777"
pub c8 : divided 0o177777 0o177771 2 ≡ Some (record { quotient = 0o177775; remainder = 0o177777 })
unfolding divided
c8 = refl

-- "C9 DIV B 0, A 100000 by 1: O 1, A and B kept"
pub c9 : divided 0 0o100000 1 ≡ None
unfolding divided
c9 = refl

-- "C10 100021 with B 040000, A 0: both 0, O 1": ASL by 1
pub c10 : (o : Bool) → long_shifted Asl 1 0o040000 0 o ≡ record { b = 0; a = 0; o = true }
unfolding moved loses
c10 o = refl

-- "C11 101020 with B 100000, A 000005: B 177777, A 100000": ASR by 16, whose field is 0
pub c11 : (o : Bool) → long_shifted Asr 0 0o100000 0o000005 o ≡ record { b = 0o177777; a = 0o100000; o = false }
unfolding moved
c11 o = refl

-- "C13 SBT, B 000041, A 000001, word 20 holding 123456: word 20 is 123401, B 000042": byte address 000041 is the odd byte of
-- word 20, the byte stored is the odd one of A, and B rises by one
pub c13_word : with_byte true 0o123456 (byte_of true 0o000001) ≡ 0o123401
c13_word = refl

pub c13_b : (incremented 0o000041).word ≡ 0o000042
unfolding sum
c13_b = refl

-- ---- the ends

pub exchanged : (o : Bool) → long_shifted Rrl 0 0o123456 0o000654 o ≡ record { b = 0o000654; a = 0o123456; o = o }
unfolding moved
exchanged o = refl

-- 32,768 by -1 and -32,768 by 1: the quotient -32,768 is legal, as 32,767 is
pub lowest_by_negative : divided 0 0o100000 0o177777 ≡ Some (record { quotient = 0o100000; remainder = 0 })
unfolding divided
lowest_by_negative = refl

pub lowest_by_positive : divided 0o177777 0o100000 1 ≡ Some (record { quotient = 0o100000; remainder = 0 })
unfolding divided
lowest_by_positive = refl

pub highest : divided 0 0o077777 1 ≡ Some (record { quotient = 0o077777; remainder = 0 })
unfolding divided
highest = refl

-- -32,768 by -1 is 32,768, and -32,769 by 1 and 32,769 by -1 are -32,769
pub above_highest : divided 0o177777 0o100000 0o177777 ≡ None
unfolding divided
above_highest = refl

pub below_lowest : divided 0o177777 0o077777 1 ≡ None
unfolding divided
below_lowest = refl

pub below_lowest_by_negative : divided 0 0o100001 0o177777 ≡ None
unfolding divided
below_lowest_by_negative = refl

-- -2,147,483,648 by -1
pub lowest_double : divided 0o100000 0 0o177777 ≡ None
unfolding divided
lowest_double = refl

pub by_zero : (b a : ℕ) → divided b a 0 ≡ None
unfolding divided
by_zero b a = refl

-- ---- answers told apart, by file of specs/

pub weights : (weight false ≡ 0) × (weight true ≡ 1)
weights = (refl, refl)

pub logical : (bit_and 0o000014 0o000012 ≡ 0o000010) × (bit_or 0o000014 0o000012 ≡ 0o000016) × (bit_xor 0o000014 0o000012 ≡ 0o000006)
logical = (refl, refl, refl)

pub complements : (complemented 0 ≡ 0o177777) × (complemented 0o000014 ≡ 0o177763)
complements = (refl, refl)

pub bytes : (byte_of false 0o123456 ≡ 0o247) × (byte_of true 0o123456 ≡ 0o056)
bytes = (refl, refl)

pub byte_stores : (with_byte false 0o123456 1 ≡ 0o000456) × (with_byte true 0o123456 1 ≡ 0o123401)
byte_stores = (refl, refl)

pub masks : (bits_cleared 0o000014 0o000012 ≡ 0o000002) × (every_bit_set 0o000014 0o000010 ≡ false) × ((w : ℕ) → every_bit_set 0 w ≡ true)
masks = (refl, refl, λ w. ap (λ (n : ℕ). eqb n 0) (and_zero_r w))

-- the second word counts 1, the first 65,536
pub joins : (joined 0 1 ≡ 1) × (joined 1 0 ≡ 0o200000)
joins = (refl, refl)

pub word_values : (signed w16 0o077777 ≡ pos 32767) × (signed w16 0o100000 ≡ negsuc 32767) × (signed w16 0o177777 ≡ negsuc 0)
word_values = (refl, refl, refl)

pub double_values : (signed w32 0x7fffffff ≡ pos 2147483647) × (signed w32 0x80000000 ≡ negsuc 2147483647)
double_values = (refl, refl)

pub double_bits : (bits_of w32 (pos 1) ≡ 1) × (bits_of w32 (negsuc 0) ≡ 0xffffffff)
double_bits = (refl, refl)

-- no overflow with a carry, overflow without one, and both
pub sums : (sum 0o177777 0o177777 ≡ record { word = 0o177776; carry = true; overflow = false })
    × (sum 0o077777 0o000001 ≡ record { word = 0o100000; carry = false; overflow = true })
    × (sum 0o100000 0o177777 ≡ record { word = 0o077777; carry = true; overflow = true })
unfolding sum
sums = (refl, refl, refl)

pub decrements : ((decremented 0).word ≡ 0o177777) × ((decremented 1).word ≡ 0)
unfolding sum
decrements = (refl, refl)

-- C15's P; and bit 15 of what is added to falls away
pub addresses : (address 0o077777 1 ≡ 0) × (address 0o100002 1 ≡ 3)
addresses = (refl, refl)

-- ALS ARS RAL RAR ALR ERA ELA ALF of 100006 with E set
pub codes : map (λ (code : ShiftCode). turned code 0o100006 true) (Als ∷ Ars ∷ Ral ∷ Rar ∷ Alr ∷ Era ∷ Ela ∷ Alf ∷ [])
    ≡ (0o100014 ∷ 0o140003 ∷ 0o000015 ∷ 0o040003 ∷ 0o000014 ∷ 0o140003 ∷ 0o000015 ∷ 0o000150 ∷ [])
codes = refl

-- the same of 000006: ERA gives E bit 0 and ELA bit 15, and no other code changes it
pub extends : map (λ (code : ShiftCode). extended code 0o000006 true) (Als ∷ Ars ∷ Ral ∷ Rar ∷ Alr ∷ Era ∷ Ela ∷ Alf ∷ [])
    ≡ (true ∷ true ∷ true ∷ true ∷ true ∷ false ∷ false ∷ true ∷ [])
extends = refl

-- -1 by 1
pub signed_product : multiplied 0o177777 1 ≡ record { b = 0o177777; a = 0o177777 }
unfolding multiplied
signed_product = refl

-- signed words, unsigned bytes
pub word_orders : (order_of_words 0o177777 0 ≡ Less) × (order_of_words 0 0o177777 ≡ Greater) × (order_of_words 5 5 ≡ Equal)
unfolding order_of_words
word_orders = (refl, refl, refl)

pub byte_orders : (order_of_bytes 0o377 0 ≡ Greater) × (order_of_bytes 0 0o377 ≡ Less) × (order_of_bytes 5 5 ≡ Equal)
byte_orders = (refl, refl, refl)
