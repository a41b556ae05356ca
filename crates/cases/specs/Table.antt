-- 01, "Cases C1 to C15 are proved as rows of one table under a single statement".
--     Case, Meets        a row, and the statement: what a step from its start leaves
--     pages, holding     one page of memory that every page register names, with some words
--     table              the rows; a flag that a case keeps is kept in two rows, clear and set
-- That every row meets it is `holds`, in Holds of proofs/.
-- Assumes nothing.
use Rattle.std.specs.Prelude.{ℕ, ◌≡◌, Bool, true, false, List, [], ◌∷◌, set, replicate}
use Rattle.acts.specs.Record.{with_a, with_b, with_p, with_e, with_o, fresh}
use Rattle.acts.specs.Replies.{number}
use Rattle.acts.specs.Acts.{Outcome, answer, left}
use Rattle.machine.specs.Step.{stepped}
use Rattle.acts.specs.declared.record.Registers.{Registers}

-- an address and its word
pub record Cell : Type 0 where
  pub at : ℕ
  pub word : ℕ

-- the registers and memory of a start, and the reply, registers and memory that are expected
pub record Case : Type 0 where
  pub start : Registers
  pub words : List Cell
  pub reply : ℕ
  pub registers : Registers
  pub later : List Cell

abbrev pub pages : List ℕ
pages = replicate 1024 0

abbrev pub holding : List Cell → List ℕ
holding [] = replicate 1024 0
holding (c ∷ cs) = set (holding cs) c.at c.word

abbrev pub result : Case → Outcome
result c = stepped pages c.start (holding c.words)

pub record Meets (c : Case) : Type 0 where
  pub replied : number (answer c.start (result c)).reply ≡ c.reply
  pub became : (answer c.start (result c)).registers ≡ c.registers
  pub left_as : left (holding c.words) (result c) ≡ holding c.later

infix 70 ◌holds◌
abbrev pub ◌holds◌ : ℕ → ℕ → Cell
at holds word = record { at = at; word = word }

-- P, A, B, E, O; the others zero
abbrev pub state : ℕ → ℕ → ℕ → Bool → Bool → Registers
state p a b e o =
    with_o (with_e (with_b (with_a (with_p fresh p) a) b) e) o

-- a case that stores nothing
abbrev pub reads : Registers → List Cell → ℕ → Registers → Case
reads start words reply registers = record { start = start; words = words; reply = reply; registers = registers; later = words }

-- a case of one word
abbrev pub alone : ℕ → Registers → Registers → Case
alone word start registers = reads start (2 holds word ∷ []) 0 registers

-- MPY or DIV by word 100
abbrev pub by : ℕ → ℕ → Registers → Registers → Case
by code operand start registers = reads start (2 holds code ∷ 3 holds 0o100 ∷ 0o100 holds operand ∷ []) 0 registers

-- C1 A 077777, INA: A 100000, O set, E kept
abbrev pub c1 : Bool → Case
c1 e = alone 0o2004 (state 2 0o77777 0 e false) (state 3 0o100000 0 e true)

-- C2 A 177777, INA: A 0, E set, O kept
abbrev pub c2 : Bool → Case
c2 o = alone 0o2004 (state 2 0o177777 0 false o) (state 3 0 0 true o)

-- C3 002031 with A 100000: no skip; C4 with A 100001: skip
abbrev pub c3 : Case
c3 = alone 0o2031 (state 2 0o100000 0 false false) (state 3 0o100000 0 false false)

abbrev pub c4 : Case
c4 = alone 0o2031 (state 2 0o100001 0 false false) (state 4 0o100001 0 false false)

-- C5 002001: skip
abbrev pub c5 : Case
c5 = alone 0o2001 (state 2 0 0 false false) (state 4 0 0 false false)

-- C6 000600 with A 100000, E 0: A kept, E 1
abbrev pub c6 : Case
c6 = alone 0o600 (state 2 0o100000 0 false false) (state 3 0o100000 0 true false)

-- C7 MPY 100000 by 100000: B 040000, A 0, O 0
abbrev pub c7 : Case
c7 = by 0o100200 0o100000 (state 2 0o100000 0 false true) (state 4 0 0o40000 false false)

-- C8 DIV B 177777, A 177771 by 2: A 177775, B 177777
abbrev pub c8 : Case
c8 = by 0o100400 2 (state 2 0o177771 0o177777 false true) (state 4 0o177775 0o177777 false false)

-- C9 DIV B 0, A 100000 by 1: O 1, A and B kept
abbrev pub c9 : Case
c9 = by 0o100400 1 (state 2 0o100000 0 false false) (state 4 0o100000 0 false true)

-- C10 100021 with B 040000, A 0: both 0, O 1
abbrev pub c10 : Case
c10 = alone 0o100021 (state 2 0 0o40000 false false) (state 3 0 0 false true)

-- C11 101020 with B 100000, A 000005: B 177777, A 100000
abbrev pub c11 : Case
c11 = alone 0o101020 (state 2 5 0o100000 false true) (state 3 0o100000 0o177777 false false)

-- C12 MVW, A 100, B 101, count 3, words 100 to 103 holding 7, 1, 2, 3: all 7; A 103, B 104
abbrev pub mvw : ℕ → ℕ → ℕ → ℕ → List Cell
mvw t u v w =
    2 holds 0o105777 ∷ 3 holds 0o50 ∷ 0o50 holds 3
    ∷ 0o100 holds t ∷ 0o101 holds u ∷ 0o102 holds v ∷ 0o103 holds w ∷ []

abbrev pub c12 : Case
c12 =
    record { start = state 2 0o100 0o101 false false; words = mvw 7 1 2 3; reply = 0; registers = state 5 0o103 0o104 false false; later = mvw 7 7 7 7 }

-- C13 SBT, B 000041, A 000001, word 20 holding 123456: word 20 is 123401, B 000042
abbrev pub c13 : Case
c13 =
    record { start = state 2 1 0o41 false false; words = 2 holds 0o105764 ∷ 0o20 holds 0o123456 ∷ []; reply = 0; registers = state 3 1 0o42 false false; later = 2 holds 0o105764 ∷ 0o20 holds 0o123401 ∷ [] }

-- C14 160100 with word 100 holding 100100: reply 3
abbrev pub c14 : Case
c14 = reads (state 2 0 0 false false) (2 holds 0o160100 ∷ 0o100 holds 0o100100 ∷ []) 3 (state 2 0 0 false false)

-- C15 NOP at P 077777: P 0
abbrev pub c15 : Case
c15 = reads (state 0o77777 0 0 false false) [] 0 (state 0 0 0 false false)

unfoldable pub table : List Case
table =
    c1 false ∷ c1 true ∷ c2 false ∷ c2 true ∷ c3 ∷ c4 ∷ c5 ∷ c6 ∷ c7 ∷ c8 ∷ c9 ∷ c10 ∷ c11 ∷ c12 ∷ c13 ∷ c14 ∷ c15 ∷ []
