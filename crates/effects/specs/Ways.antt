-- What an instruction does with the word at its address, by the way in which it works on memory.
--     flagged              E and O by a sum
--     taken                the word read, and the registers that follow
--     stored, addressed    what is stored, and where
--     storable, way_act    the accesses of each way
-- Which instruction goes which way is in `Rules` of the crate `rules`. Assumes nothing.
use Rattle.std.specs.Prelude.{ℕ, ◌+◌, true, false, not, ◌||◌, eqb, Option, Some, None}
use Rattle.std.specs.Int.Bits.{bit_and, bit_or, bit_xor}
use Rattle.word.specs.Words.{weight}
use Rattle.word.specs.Sums.{sum, incremented, address}
use Rattle.word.specs.Products.{multiplied, divided}
use Rattle.word.specs.declared.sums.Sum.{Sum}
use Rattle.word.specs.declared.products.Quotient.{Quotient}
use Rattle.maps.specs.declared.pages.Map.{Map}
use Rattle.maps.specs.declared.pages.Purpose.{Purpose}
use Rattle.acts.specs.Record.{with_a, with_b, with_e, with_o, in_register, with_register, in_index, with_index, ahead}
use Rattle.acts.specs.Acts.{Act, fin, load, save, opened, present, go_on}
use Rattle.acts.specs.declared.record.Registers.{Registers}
use Rattle.effects.specs.declared.ways.Taking.{Taking}
use Rattle.effects.specs.declared.ways.Taking.TheVariants.{And, Xor, Ior, Add, Compare, Load, Multiply, Divide, LoadIndex, AddIndex}
use Rattle.effects.specs.declared.ways.Source.{Source}
use Rattle.effects.specs.declared.ways.Addressing.{Addressing}
use Rattle.effects.specs.declared.ways.Addressing.TheVariants.{Plain, Indexed}
use Rattle.effects.specs.declared.ways.Way.{Way}
use Rattle.effects.specs.declared.ways.Way.TheVariants.{Take, Put, LoadDouble, StoreDouble, StepAndSkip, Jump, JumpSaving}

-- 01: "E is set on a carry out of bit 15, O on signed overflow, and neither is cleared."
abbrev pub flagged : Sum → Registers → Registers
flagged t r = with_o (with_e r (r.e || t.carry)) (r.o || t.overflow)

-- 01: "O cleared; with divisor 0 or a quotient outside -32,768 to 32,767, O is set and A and B stay (here)."
abbrev pub quotient : Option Quotient → Registers → Registers
quotient (Some q) r = with_o (with_b (with_a r q.quotient) q.remainder) false
quotient None r = with_o r true

-- what is done with a word w by an instruction of n words
abbrev pub taken : Taking → ℕ → ℕ → Registers → Registers
taken And w n r = ahead n (with_a r (bit_and r.a w))
taken Xor w n r = ahead n (with_a r (bit_xor r.a w))
taken Ior w n r = ahead n (with_a r (bit_or r.a w))
taken (Add g) w n r = ahead n (with_register g (flagged (sum (in_register g r) w) r) (sum (in_register g r) w).word)
-- 01: "CPA and CPB skip when different."
taken (Compare g) w n r = ahead (n + weight (not (eqb (in_register g r) w))) r
taken (Load g) w n r = ahead n (with_register g r w)
taken Multiply w n r = ahead n (with_o (with_b (with_a r (multiplied r.a w).a) (multiplied r.a w).b) false)
taken Divide w n r = ahead n (quotient (divided r.b r.a w) r)
taken (LoadIndex i) w n r = ahead n (with_index i r w)
-- 01: "ADX and ADY set E and O as ADA does."
taken (AddIndex i) w n r = ahead n (with_index i (flagged (sum (in_index i r) w) r) (sum (in_index i r) w).word)

abbrev pub stored : Source → Registers → ℕ
stored (Source.Register g) r = in_register g r
stored (Source.Index i) r = in_index i r

-- 01: "SAX and LAX add the index after the chain."
abbrev pub addressed : Addressing → ℕ → Registers → ℕ
addressed Plain m r = m
addressed (Indexed i) m r = address m (in_index i r)

-- the tests of a store alone
abbrev pub storable : ℕ → Act → Act
storable at k = opened Map.Execute Purpose.Store at (present Map.Execute at k)

-- r are the registers at the instruction's start, m its address, n its words
abbrev pub way_act : Way → Registers → ℕ → ℕ → Act
way_act (Take t map x) r m n = load map (addressed x m r) (λ w. fin (taken t w n))
way_act (Put s map x) r m n = save map (addressed x m r) (stored s r) (go_on (address r.p n))
-- 01: "DLD reads both words before it changes A or B."
way_act LoadDouble r m n = load Map.Execute m (λ v. load Map.Execute (address m 1) (λ w. fin (λ s. ahead n (with_b (with_a s v) w))))
-- 01: "DST stores the values at the start and tests both words before storing."
way_act StoreDouble r m n =
    storable m (storable (address m 1)
    (save Map.Execute m r.a (save Map.Execute (address m 1) r.b (go_on (address r.p n)))))
-- 01: "ISZ reads, then stores the word plus one and skips if that is 0; E and O stay."
way_act StepAndSkip r m n =
    load Map.Execute m (λ w. save Map.Execute m (incremented w).word (go_on (address r.p (n + weight (eqb (incremented w).word 0)))))
-- 01: "JMP doesn't read its target."
way_act Jump r m n = go_on m
way_act JumpSaving r m n = save Map.Execute m (address r.p n) (go_on (address m 1))
