-- The extended codes of the lane: the word of each, and how its rule is completed.
--     transfer_word, indexing_word, arithmetic_word, long_at    the words, of a long shift without its places
--     read_transfer, read_indexing, read_arithmetic, read_long      that each reads as its code
--     told                                              the rule of a word that reads as a code
--     copied_to, copied_from, exchanging, up, down, rotating        a code that has no address word
--     arrived                                           where the address word of a code leads
-- Assumes nothing.
use Prim.Native.Nat.{ℕ, ◌+◌, ◌/◌, ◌%◌, ◌≤◌}
use native.Mathlib.Omega.{arith}
use mathlib.Core.Path.{◌≡◌, refl, ap, ◌∙◌}
use mathlib.Core.Bool.{Bool, true, false}
use mathlib.Core.List.{List}
use lib.Dec.{eqb}
use borrow.Author.Tests.{ne_eqb}
use Rattle.word.specs.declared.long.LongShift.{LongShift}
use Rattle.word.specs.declared.long.LongShift.TheVariants.{Asl, Lsl, Rrl, Asr, Lsr, Rrr}
use Rattle.word.specs.Sums.{incremented, decremented, address}
use Rattle.maps.specs.Access.{fetched}
use Rattle.maps.specs.Chains.{chain}
use Rattle.maps.specs.declared.pages.Map.{Map}
use Rattle.std.specs.List.{find}
use Rattle.code.specs.Codes.{find_word, rows}
use Rattle.code.specs.Instructions.{memory_reference, shift_rotate, alter_skip, input_output, places, of_kind, extended, reading}
use Rattle.code.proofs.Fields.{is_extended}
use Rattle.code.specs.declared.codes.Register.{Register}
use Rattle.code.specs.declared.codes.Register.TheVariants.{A, B}
use Rattle.code.specs.declared.codes.Index.{Index}
use Rattle.code.specs.declared.codes.Index.TheVariants.{X, Y}
use Rattle.code.specs.declared.codes.Transfer.{Transfer}
use Rattle.code.specs.declared.codes.Transfer.TheVariants.{Sax, Cax, Lax, Cxa, Xax}
use Rattle.code.specs.declared.codes.Indexing.{Indexing}
use Rattle.code.specs.declared.codes.Indexing.TheVariants.{Stx, Ldx, Adx, Isx, Dsx}
use Rattle.code.specs.declared.codes.Arithmetic.{Arithmetic}
use Rattle.code.specs.declared.codes.Arithmetic.TheVariants.{Mpy, Div, Dld, Dst}
use Rattle.code.specs.declared.codes.Extended.{Extended}
use Rattle.code.specs.declared.codes.Kind.TheVariants.{Exact, Long}
use Rattle.code.specs.declared.instructions.Instruction.{Instruction}
use Rattle.acts.specs.Record.{in_index}
use Rattle.acts.specs.Acts.{Act, follow, done, exec}
use Rattle.acts.specs.declared.record.Registers.{Registers}
use Rattle.effects.specs.Group.{long_rotated, copied_to_index, copied_from_index, exchanged, index_stepped}
use Rattle.effects.specs.Ways.{way_act}
use Rattle.effects.specs.declared.ways.Way.{Way}
use Rattle.rules.specs.Rules.{extended_action, act, rule}
use Rattle.rules.specs.declared.actions.Operand.{Operand}
use Rattle.rules.specs.declared.actions.Action.{Action}
use Rattle.lane.proofs.Ways.{loaded, finished}
use Rattle.std.specs.Prelude.{Some, None, Result, Ok}
use Rattle.std.specs.Result.{result_ok}
use Rattle.maps.specs.declared.troubles.Trouble.{Trouble}

---- The words

abbrev at_register : Register → ℕ
at_register A = 0o1740
at_register B = 0o5740

abbrev at_index : Index → ℕ
at_index X = 0
at_index Y = 0o10

abbrev at_transfer : Transfer → ℕ
at_transfer Sax = 0
at_transfer Cax = 1
at_transfer Lax = 2
at_transfer Cxa = 4
at_transfer Xax = 7

abbrev pub transfer_word : Transfer → Register → Index → ℕ
transfer_word o g i = 0o100000 + at_register g + at_index i + at_transfer o

abbrev at_indexing : Indexing → ℕ
at_indexing Stx = 0o3
at_indexing Ldx = 0o5
at_indexing Adx = 0o6
at_indexing Isx = 0o20
at_indexing Dsx = 0o21

abbrev pub indexing_word : Indexing → Index → ℕ
indexing_word o i = 0o105740 + at_index i + at_indexing o

abbrev pub arithmetic_word : Arithmetic → ℕ
arithmetic_word Mpy = 0o100200
arithmetic_word Div = 0o100400
arithmetic_word Dld = 0o104200
arithmetic_word Dst = 0o104400

---- That each reads as its code

pub read_transfer : (o : Transfer) (g : Register) (i : Index) → reading (transfer_word o g i) ≡ Instruction.Extended (Extended.Transfer o g i)
unfolding reading memory_reference shift_rotate alter_skip input_output extended find_word rows
read_transfer Sax A X = refl
read_transfer Sax A Y = refl
read_transfer Sax B X = refl
read_transfer Sax B Y = refl
read_transfer Cax A X = refl
read_transfer Cax A Y = refl
read_transfer Cax B X = refl
read_transfer Cax B Y = refl
read_transfer Lax A X = refl
read_transfer Lax A Y = refl
read_transfer Lax B X = refl
read_transfer Lax B Y = refl
read_transfer Cxa A X = refl
read_transfer Cxa A Y = refl
read_transfer Cxa B X = refl
read_transfer Cxa B Y = refl
read_transfer Xax A X = refl
read_transfer Xax A Y = refl
read_transfer Xax B X = refl
read_transfer Xax B Y = refl

pub read_indexing : (o : Indexing) (i : Index) → reading (indexing_word o i) ≡ Instruction.Extended (Extended.Indexing o i)
unfolding reading memory_reference shift_rotate alter_skip input_output extended find_word rows
read_indexing Stx X = refl
read_indexing Stx Y = refl
read_indexing Ldx X = refl
read_indexing Ldx Y = refl
read_indexing Adx X = refl
read_indexing Adx Y = refl
read_indexing Isx X = refl
read_indexing Isx Y = refl
read_indexing Dsx X = refl
read_indexing Dsx Y = refl

pub read_arithmetic : (o : Arithmetic) → reading (arithmetic_word o) ≡ Instruction.Extended (Extended.Arithmetic o)
unfolding reading memory_reference shift_rotate alter_skip input_output extended find_word rows
read_arithmetic Mpy = refl
read_arithmetic Div = refl
read_arithmetic Dld = refl
read_arithmetic Dst = refl

-- a long shift, by the bits above its places

abbrev pub long_at : LongShift → ℕ
long_at Asl = 0o4001
long_at Lsl = 0o4002
long_at Rrl = 0o4004
long_at Asr = 0o4041
long_at Lsr = 0o4042
long_at Rrr = 0o4044

in_group : (w : ℕ) → 0o4001 ≤ w / 16 → w / 16 ≤ 0o4044 → reading w ≡ extended w
in_group w l h = is_extended w (omega arith) (omega arith) (omega arith)

-- the search of the table, by the bits above the places where it asks for them
abbrev sought : ℕ → ℕ → Instruction
sought w q =
    elim (find (λ e. elim e.kind [ Exact _ ↦ eqb w e.code | Long _ ↦ eqb q (e.code / 16) ]) rows) [
      | Some e ↦ of_kind e.kind w
      | None ↦ Instruction.NotBuilt w
    ]

found : (w : ℕ) {q : ℕ} → w / 16 ≡ q → extended w ≡ sought w q
unfolding extended find_word
found w e = ap (sought w) e

pub read_long : (kind : LongShift) (w : ℕ) → w / 16 ≡ long_at kind → reading w ≡ Instruction.LongShift kind (places w)
unfolding rows
read_long Asl w e = in_group w (omega arith) (omega arith) ∙ found w e
read_long Lsl w e = in_group w (omega arith) (omega arith) ∙ found w e
read_long Rrl w e = in_group w (omega arith) (omega arith) ∙ found w e
read_long Asr w e =
    in_group w (omega arith) (omega arith) ∙ found w e ∙ rw (ne_eqb w 0o100200 (λ q. omega arith), ne_eqb w 0o100400 (λ q. omega arith), sought, find)
read_long Lsr w e =
    in_group w (omega arith) (omega arith) ∙ found w e ∙ rw (ne_eqb w 0o100200 (λ q. omega arith), ne_eqb w 0o100400 (λ q. omega arith), sought, find)
read_long Rrr w e =
    in_group w (omega arith) (omega arith) ∙ found w e ∙ rw (ne_eqb w 0o100200 (λ q. omega arith), ne_eqb w 0o100400 (λ q. omega arith), sought, find)

again : (w : ℕ) → places (places w) ≡ places w
again w = go (eqb (w % 16) 0) refl
  where
    go : (b : Bool) → eqb (w % 16) 0 ≡ b → places (places w) ≡ places w
    go true h = rw h
    go false h = let e : w % 16 % 16 ≡ w % 16 = omega arith in rw (h, e, h)

same_places : (kind : LongShift) (w : ℕ) (r : Registers) → long_rotated kind w r ≡ long_rotated kind (places w) r
unfolding long_rotated
same_places kind w r = rw (again w)

---- A code that has no address word

module _ (r : Registers) where
  pub told : {word k : ℕ} (x : Extended) → word ≡ k → reading k ≡ Instruction.Extended x → rule (reading word) r ≡ act (extended_action x) r
  told x e g = rw (e, g)

  pub copied_to : (g : Register) (i : Index) {word : ℕ} {s : Registers} → word ≡ transfer_word Cax g i → s ≡ copied_to_index g i r
      → (pages m : List ℕ) → exec pages (rule (reading word) r) r m ≡ done s m
  copied_to g i e h pages m = rw (told (Extended.Transfer Cax g i) e (read_transfer Cax g i)) (finished pages m r (copied_to_index g i) m h)

  pub copied_from : (g : Register) (i : Index) {word : ℕ} {s : Registers} → word ≡ transfer_word Cxa g i → s ≡ copied_from_index g i r
      → (pages m : List ℕ) → exec pages (rule (reading word) r) r m ≡ done s m
  copied_from g i e h pages m = rw (told (Extended.Transfer Cxa g i) e (read_transfer Cxa g i)) (finished pages m r (copied_from_index g i) m h)

  pub exchanging : (g : Register) (i : Index) {word : ℕ} {s : Registers} → word ≡ transfer_word Xax g i → s ≡ exchanged g i r
      → (pages m : List ℕ) → exec pages (rule (reading word) r) r m ≡ done s m
  exchanging g i e h pages m = rw (told (Extended.Transfer Xax g i) e (read_transfer Xax g i)) (finished pages m r (exchanged g i) m h)

  pub up : (i : Index) {word : ℕ} {s : Registers} → word ≡ indexing_word Isx i → s ≡ index_stepped i (incremented (in_index i r)).word r
      → (pages m : List ℕ) → exec pages (rule (reading word) r) r m ≡ done s m
  up i e h pages m = rw (told (Extended.Indexing Isx i) e (read_indexing Isx i)) (finished pages m r (index_stepped i (incremented (in_index i r)).word) m h)

  pub down : (i : Index) {word : ℕ} {s : Registers} → word ≡ indexing_word Dsx i → s ≡ index_stepped i (decremented (in_index i r)).word r
      → (pages m : List ℕ) → exec pages (rule (reading word) r) r m ≡ done s m
  down i e h pages m = rw (told (Extended.Indexing Dsx i) e (read_indexing Dsx i)) (finished pages m r (index_stepped i (decremented (in_index i r)).word) m h)

  pub rotating : (kind : LongShift) (word : ℕ) {s : Registers} → reading word ≡ Instruction.LongShift kind (places word) → s ≡ long_rotated kind word r
      → (pages m : List ℕ) → exec pages (rule (reading word) r) r m ≡ done s m
  rotating kind word e h pages m = rw e (finished pages m r (long_rotated kind (places word)) m (h ∙ same_places kind word r))

---- A code that has an address word

module _ (pages m : List ℕ) (r : Registers) where
  followed : (from : ℕ) {to : ℕ} (k : ℕ → Act) → chain pages m r.wmap from r.a r.b ≡ Ok to
      → exec pages (follow from k) r m ≡ exec pages (k to) r m
  unfolding exec
  followed from k e = rw e

  pub arrived : (way : Way) (from : ℕ) {to : ℕ} {f : Result ℕ Trouble} → f ≡ fetched pages m r.wmap Map.Execute (address r.p 1) r.a r.b
      → Some from ≡ result_ok f → chain pages m r.wmap from r.a r.b ≡ Ok to
      → exec pages (act (Action.At way Operand.Next) r) r m ≡ exec pages (way_act way r to 2) r m
  arrived way from e w h =
      loaded pages m r (address r.p 1) (λ v. follow v (λ at. way_act way r at 2)) e w ∙ followed from (λ at. way_act way r at 2) h
