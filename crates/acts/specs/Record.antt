-- The register record.
--     made, changed, words_of      the order of its words
--     with_word .. with_index      one register replaced
--     ahead                        P moved on
--     fresh, valid                 the fresh record, and which records are valid
--     interrupted                  the interrupt state of a violation
--     is_record .. registers_of    the record that words are, if they are one
-- Assumes nothing.
use Rattle.std.specs.Prelude.{ℕ, Bool, false, cond, not, ◌&&◌, ◌||◌, List, [], ◌∷◌, eqb, leb, ltb, length, get_or, Option, Some, None}
use Rattle.word.specs.Words.{weight}
use Rattle.word.specs.Sums.{address}
use Rattle.maps.specs.Pages.{protecting, switched}
use Rattle.acts.specs.declared.record.Registers.{Registers}
use Rattle.code.specs.declared.codes.Register.{Register}
use Rattle.code.specs.declared.codes.Register.TheVariants.{A, B}
use Rattle.code.specs.declared.codes.Index.{Index}
use Rattle.code.specs.declared.codes.Index.TheVariants.{X, Y}

-- The record's order: the places of its words, as the calls of 01 have them. E and O are flags.

-- a record by what its places hold
abbrev pub made : (ℕ → ℕ) → (ℕ → Bool) → Registers
made word flag =
    record {
      a = word 0;
      b = word 1;
      x = word 2;
      y = word 3;
      p = word 4;
      e = flag 5;
      o = flag 6;
      wmap = word 7;
      imap = word 8;
      violation = word 9;
      interrupt = word 10;
      trap = word 11;
      switches = word 12;
      lights = word 13;
    }

-- a record whose places hold something else
abbrev pub changed : (ℕ → ℕ → ℕ) → (ℕ → Bool → Bool) → Registers → Registers
changed word flag r =
    record {
      a = word 0 r.a;
      b = word 1 r.b;
      x = word 2 r.x;
      y = word 3 r.y;
      p = word 4 r.p;
      e = flag 5 r.e;
      o = flag 6 r.o;
      wmap = word 7 r.wmap;
      imap = word 8 r.imap;
      violation = word 9 r.violation;
      interrupt = word 10 r.interrupt;
      trap = word 11 r.trap;
      switches = word 12 r.switches;
      lights = word 13 r.lights;
    }

-- the words of a record
abbrev pub words_of : Registers → List ℕ
words_of r =
    r.a ∷ r.b ∷ r.x ∷ r.y ∷ r.p ∷ weight r.e ∷ weight r.o ∷ r.wmap ∷ r.imap
    ∷ r.violation ∷ r.interrupt ∷ r.trap ∷ r.switches ∷ r.lights ∷ []

abbrev pub record_words : ℕ
record_words = 14

-- One register replaced.

abbrev pub with_word : ℕ → Registers → ℕ → Registers
with_word place r v = changed (λ here old. cond (eqb place here) v old) (λ here old. old) r

abbrev pub with_flag : ℕ → Registers → Bool → Registers
with_flag place r v = changed (λ here old. old) (λ here old. cond (eqb place here) v old) r

abbrev pub with_a : Registers → ℕ → Registers
with_a = with_word 0

abbrev pub with_b : Registers → ℕ → Registers
with_b = with_word 1

abbrev pub with_x : Registers → ℕ → Registers
with_x = with_word 2

abbrev pub with_y : Registers → ℕ → Registers
with_y = with_word 3

abbrev pub with_p : Registers → ℕ → Registers
with_p = with_word 4

abbrev pub with_e : Registers → Bool → Registers
with_e = with_flag 5

abbrev pub with_o : Registers → Bool → Registers
with_o = with_flag 6

abbrev pub with_wmap : Registers → ℕ → Registers
with_wmap = with_word 7

abbrev pub with_imap : Registers → ℕ → Registers
with_imap = with_word 8

abbrev pub with_violation : Registers → ℕ → Registers
with_violation = with_word 9

abbrev pub with_interrupt : Registers → ℕ → Registers
with_interrupt = with_word 10

abbrev pub with_trap : Registers → ℕ → Registers
with_trap = with_word 11

abbrev pub with_lights : Registers → ℕ → Registers
with_lights = with_word 13

abbrev pub in_register : Register → Registers → ℕ
in_register A r = r.a
in_register B r = r.b

abbrev pub with_register : Register → Registers → ℕ → Registers
with_register A r v = with_a r v
with_register B r v = with_b r v

abbrev pub in_index : Index → Registers → ℕ
in_index X r = r.x
in_index Y r = r.y

abbrev pub with_index : Index → Registers → ℕ → Registers
with_index X r v = with_x r v
with_index Y r v = with_y r v

-- 01: "P and every sum that makes a word address keep 15 bits."
abbrev pub ahead : ℕ → Registers → Registers
ahead n r = with_p r (address r.p n)

-- 01: "A fresh record is zero throughout except that P is 2."
abbrev pub fresh : Registers
fresh = with_p (made (λ place. 0) (λ place. false)) 2

-- 01, Bad call: "a register outside its range; trap waiting with protection on". A word has no value outside its range.
abbrev pub valid : Registers → Bool
valid r =
    ltb r.p 0o100000 && ltb r.violation 0o100000 && (eqb r.interrupt 0 || eqb r.interrupt 7)
    && (eqb r.trap 0 || eqb r.trap 7 && not (protecting r.wmap))

-- 01, Violation: "The violation register takes the instruction's address, the central interrupt register 7, IMAP the old
-- WMAP; in WMAP the Execute map becomes 0, DATA1 the old Execute map, DATA2 keeps its value (here), protection goes off; the
-- waiting trap is 7. P stays at the instruction (here). Other registers keep their values."
abbrev pub interrupted : Registers → Registers
interrupted r =
    with_trap (with_interrupt (with_violation (with_imap (with_wmap r (switched r.wmap)) r.wmap) r.p) 7) 7

-- The record as words: which words are a record, and the record that they are. E and O are one bit each, switches and lights
-- eight; every other register has a value for each word. That `registers_of` gives back what `words_of` writes is in proofs/Words.
abbrev pub is_record : List ℕ → Bool
is_record w =
    eqb (length w) record_words && leb (get_or w 5 0) 1 && leb (get_or w 6 0) 1 && leb (get_or w 12 0) 255 && leb (get_or w 13 0) 255

abbrev pub registers_at : List ℕ → Registers
registers_at w = made (λ place. get_or w place 0) (λ place. eqb (get_or w place 0) 1)

unfoldable pub registers_of : List ℕ → Option Registers
registers_of w = cond (is_record w) (Some (registers_at w)) None
