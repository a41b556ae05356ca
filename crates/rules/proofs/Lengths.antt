-- How many words an instruction has, by the table of the codes and by the rules.
--     lengths          the table's length of a code is the number of words of the code's action
--     moves_on         an action that is completed and is no jump leaves P past its words, or past one or two words more
--     code_moves_on    so a code that is completed leaves P past as many words as the table has
-- Where JMP and JSB lead is their rule's own. Assumes nothing.
use Prim.Native.Nat.{ℕ, zero-le, zero, suc, ◌+◌, ◌≤◌}
use native.Mathlib.Omega.{arith}
use native.Mathlib.Nat.{add-zero}
use mathlib.Core.Path.{◌≡◌, refl, ◌∙◌, sym, ap}
use mathlib.Core.Bool.{Bool, true, false, cond, not, ◌&&◌, ◌||◌}
use mathlib.Core.List.{List}
use lib.Dec.{T, eqb}
use borrow.Author.Tests.{eqb-true, not-true}
use Rattle.std.proofs.Common.{Option, Some, None}
use Rattle.word.specs.Words.{bit, weight, every_bit_set}
use Rattle.word.specs.Sums.{incremented, address}
use Rattle.word.specs.Products.{divided}
use Rattle.word.specs.declared.products.Quotient.{Quotient}
use Rattle.maps.specs.Pages.{protecting, is_register}
use Rattle.maps.specs.declared.pages.Map.TheVariants.{Execute}
use Rattle.code.specs.Codes.{rows, length_of, privileged}
use Rattle.acts.specs.Record.{with_register, in_register}
use Rattle.acts.specs.Acts.{Act, fin, stop, violate, Outcome, done, violated, refused, bad_call, exec}
use Rattle.effects.specs.Ways.{quotient, taken, way_act}
use Rattle.effects.specs.Group.{shift_place, shift_rotated, altered, alter_skips, alter_ended, alter_skipped, long_rotated, copied_to_index, exchanged, index_stepped, picked, panel_act, is_halt, io_act}
use Rattle.strings.specs.Strings.{word_at, along, value_of, order_of, comparing, masked}
use Rattle.rules.specs.Rules.{words_of, extended_action, jumps, act, action_words, jumping}
use Rattle.acts.specs.declared.record.Registers.{Registers}
use Rattle.acts.specs.declared.replies.Refusal.{Refusal}
use Rattle.code.specs.declared.codes.Register.{Register}
use Rattle.code.specs.declared.codes.Register.TheVariants.{A, B}
use Rattle.code.specs.declared.codes.Index.{Index}
use Rattle.code.specs.declared.codes.Index.TheVariants.{X, Y}
use Rattle.code.specs.declared.codes.Bits.{Bits}
use Rattle.code.specs.declared.codes.Bits.TheVariants.{Sbs, Cbs, Tbs}
use Rattle.code.specs.declared.codes.Extended.{Extended}
use Rattle.code.specs.declared.codes.Kind.{Kind}
use Rattle.code.specs.declared.codes.Kind.TheVariants.{Exact, Long}
use Rattle.code.specs.declared.codes.Entry.{Entry}
use Rattle.code.specs.declared.instructions.ShiftRotate.{ShiftRotate}
use Rattle.code.specs.declared.instructions.AlterSkip.{AlterSkip}
use Rattle.code.specs.declared.instructions.InputOutput.{InputOutput}
use Rattle.code.specs.declared.instructions.IoOperation.TheVariants.{Hlt, Flag, Sfc, Sfs, Mia, Lia, Ota, Control}
use Rattle.effects.specs.declared.ways.Taking.{Taking}
use Rattle.effects.specs.declared.ways.Taking.TheVariants.{And, Xor, Ior, Add, Load, Multiply, Divide, LoadIndex, AddIndex}
use Rattle.effects.specs.declared.ways.Way.{Way}
use Rattle.effects.specs.declared.ways.Way.TheVariants.{Take, Put, LoadDouble, StoreDouble, StepAndSkip, Jump, JumpSaving}
use Rattle.strings.specs.declared.strings.Element.{Element}
use Rattle.strings.specs.declared.strings.Element.TheVariants.{Byte}
use Rattle.rules.specs.declared.actions.Action.{Action}
use Rattle.rules.specs.declared.actions.Action.TheVariants.{At, CopyToIndex, CopyFromIndex, Exchange, CountUp, CountDown, LoadByte, StoreByte, Move, Mask}
use Rattle.code.proofs.Truth.{never, both}
use Rattle.code.proofs.Search.{every}
use Rattle.code.proofs.Table.{in_table}
use Rattle.acts.proofs.Keeping.{Leads, Carrying, exec_holds}
use Rattle.rules.proofs.Parts.{either, ordered, string_moves, loads, counts, reaches}

-- The table: a test of each row. No code of it jumps.

abbrev measured : Entry → Kind → Bool
measured e (Exact x) = cond (eqb e.length (action_words (extended_action x))) (not (jumping (extended_action x))) false
measured e (Long s) = eqb e.length (action_words (Action.LongShift s 1))

all_measured : T (every (λ e. measured e e.kind) rows)
unfolding rows
all_measured = tt

of_table : (x : Extended) → (action_words (extended_action x) ≡ length_of x) × (jumping (extended_action x) ≡ false)
unfolding length_of
of_table x =
    let row = in_table (λ e. measured e e.kind) all_measured (Exact x) in
    let words = action_words (extended_action x) in
    let t = both (eqb row.0.length words) (not (jumping (extended_action x))) (rw row.2 at row.3) in
    (rw (row.1, length_of) (sym (eqb-true row.0.length words t.0)), not-true (jumping (extended_action x)) t.1)

pub lengths : (x : Extended) → action_words (extended_action x) ≡ length_of x
lengths x = (of_table x).0

-- Registers whose P is as it was.

register_p : (g : Register) (r : Registers) (v : ℕ) → (with_register g r v).p ≡ r.p
register_p A r v = refl
register_p B r v = refl

quotient_p : (q : Option Quotient) (r : Registers) → (quotient q r).p ≡ r.p
quotient_p (Some q) r = refl
quotient_p None r = refl

choice_p : (b : Bool) (r s : Registers) {q : ℕ} → r.p ≡ q → s.p ≡ q → (cond b r s).p ≡ q
choice_p true r s d e = d
choice_p false r s d e = e

at_most : (b : Bool) → weight b ≤ 2
at_most true = omega arith
at_most false = omega arith

-- The program of the instruction at r's P: P stays there while it runs, and ends past n words, or past one or two words more.

module _ (r : Registers) where
  abbrev Here : Registers → Type 0
  Here s = s.p ≡ r.p

  abbrev Past : ℕ → ℕ → Type 0
  Past n q = (k : ℕ) × (k ≤ 2) × (q ≡ address r.p (n + k))

  abbrev Gone : ℕ → Registers → Type 0
  Gone n s = Past n s.p

  abbrev Moves : ℕ → Act → Type 0
  Moves n = Leads Here (Gone n)

  on : (n k : ℕ) → k ≤ 2 → {q : ℕ} → q ≡ r.p → Past n (address q (n + k))
  on n k l e = (k, l, ap (λ (q : ℕ). address q (n + k)) e)

  exact : (n : ℕ) {q : ℕ} → q ≡ r.p → Past n (address q n)
  exact n e = (0, zero-le, rw (e, add-zero))

  skips : (n : ℕ) (b : Bool) {q : ℕ} → q ≡ r.p → Past n (address q (n + weight b))
  skips n b e = on n (weight b) (at_most b) e

  taken_moves : (t : Taking) (w n : ℕ) (s : Registers) → Here s → Gone n (taken t w n s)
  taken_moves And w n s e = exact n e
  taken_moves Xor w n s e = exact n e
  taken_moves Ior w n s e = exact n e
  taken_moves (Add A) w n s e = exact n e
  taken_moves (Add B) w n s e = exact n e
  taken_moves (Taking.Compare g) w n s e = skips n (not (eqb (in_register g s) w)) e
  taken_moves (Load A) w n s e = exact n e
  taken_moves (Load B) w n s e = exact n e
  taken_moves Multiply w n s e = exact n e
  taken_moves Divide w n s e = exact n (quotient_p (divided s.b s.a w) s ∙ e)
  taken_moves (LoadIndex X) w n s e = exact n e
  taken_moves (LoadIndex Y) w n s e = exact n e
  taken_moves (AddIndex X) w n s e = exact n e
  taken_moves (AddIndex Y) w n s e = exact n e

  -- shift/rotate, alter/skip, the index registers

  shift_moves : (i : ShiftRotate) → Moves 1 (fin (shift_rotated i))
  unfolding shift_rotated
  shift_moves i s e =
      let t = shift_place i.enabled1 i.shift1 (in_register i.register s) s.e in
      skips 1 (i.sla && not (bit 0 t.word)) (register_p i.register s _ ∙ e)

  alter_moves : (i : AlterSkip) → Moves 1 (fin (alter_skipped i))
  unfolding alter_skipped alter_ended
  alter_moves i s e =
      let w = altered i.alter (in_register i.register s) in
      skips 1 (alter_skips i s.e w (cond i.ina (incremented w).word w)) (register_p i.register _ _ ∙ choice_p i.ina _ _ e e)

  to_index_moves : (g : Register) (i : Index) → Moves 1 (fin (copied_to_index g i))
  to_index_moves g X s e = exact 1 e
  to_index_moves g Y s e = exact 1 e

  exchanged_moves : (g : Register) (i : Index) → Moves 1 (fin (exchanged g i))
  exchanged_moves g X s e = exact 1 (register_p g s _ ∙ e)
  exchanged_moves g Y s e = exact 1 (register_p g s _ ∙ e)

  stepped_index_moves : (i : Index) (w : ℕ) → Moves 1 (fin (index_stepped i w))
  stepped_index_moves X w s e = skips 1 (eqb w 0) e
  stepped_index_moves Y w s e = skips 1 (eqb w 0) e

  -- I/O

  panel_moves : (io : InputOutput) → Moves 1 (panel_act io)
  unfolding panel_act
  panel_moves io =
      elim io.operation as (λ o. Moves 1 (panel_act (record { operation = o; bit11 = io.bit11; bit9 = io.bit9; select = io.select }))) [
        | Hlt ↦ tt
        | Flag ↦ λ s e. exact 1 e
        | Sfc ↦ λ s e. skips 1 (not s.o) e
        | Sfs ↦ λ s e. skips 1 s.o e
        | Mia ↦ tt
        | Lia ↦ either Here (Gone 1) io.bit9 (stop Refusal.InputOutput) _ tt (λ s e. exact 1 (register_p (picked io.bit11) s _ ∙ e))
        | Ota ↦ either Here (Gone 1) io.bit9 (stop Refusal.InputOutput) _ tt (λ s e. exact 1 e)
        | Control ↦ tt
      ]

  io_moves : (io : InputOutput) → Moves 1 (io_act io r)
  unfolding io_act
  io_moves io =
      either Here (Gone 1) (protecting r.wmap && (is_halt io.operation || not (eqb io.select 1))) violate _ tt
      (either Here (Gone 1) (eqb io.select 1) (panel_act io) (stop Refusal.InputOutput) (panel_moves io) tt)

  -- strings of words and bytes

  comparing_moves : (u : Element) (end s d n : ℕ) → Moves 3 (comparing u end s d n)
  unfolding comparing
  comparing_moves u end s d zero = λ _ e. exact 3 e
  comparing_moves u end s d (suc n) =
      loads Here (Gone 3) u s _ (λ v. loads Here (Gone 3) u d _ (λ w.
      ordered Here (Gone 3) (order_of u (value_of u s v) (value_of u d w)) _ _ _
      (λ _ e. on 3 1 (omega arith) e) (comparing_moves u end (along u s 1) (along u d 1) n) (λ _ e. on 3 2 (omega arith) e)))

  mask_moves : (x : Bits) (mask w at : ℕ) → Moves 3 (masked x r mask w at)
  mask_moves Sbs mask w at = λ _ _. exact 3 refl
  mask_moves Cbs mask w at = λ _ _. exact 3 refl
  mask_moves Tbs mask w at = λ _ _. skips 3 (not (every_bit_set mask w)) refl

  -- the rules

  way_moves : (way : Way) (m n : ℕ) → jumps way ≡ false → Moves n (way_act way r m n)
  way_moves (Take t map x) m n no_jump = λ w. taken_moves t w n
  way_moves (Put source map x) m n no_jump = λ _ _. exact n refl
  way_moves LoadDouble m n no_jump = λ v w _ e. exact n e
  way_moves StoreDouble m n no_jump = λ _ _. exact n refl
  way_moves StepAndSkip m n no_jump = λ w _ _. skips n (eqb (incremented w).word 0) refl
  way_moves Jump m n no_jump = never no_jump
  way_moves JumpSaving m n no_jump = never no_jump

  act_moves : (a : Action) → jumping a ≡ false → Moves (action_words a) (act a r)
  unfolding long_rotated
  act_moves (At way from) no_jump =
      reaches Here (Gone (words_of from)) from r _ (λ m l. way_moves way m (words_of from) no_jump)
  act_moves (Action.ShiftRotate i) no_jump = shift_moves i
  act_moves (Action.AlterSkip i) no_jump = alter_moves i
  act_moves (Action.InputOutput io) no_jump = io_moves io
  act_moves (Action.LongShift kind n) no_jump = λ s e. exact 1 e
  act_moves (CopyToIndex g i) no_jump = to_index_moves g i
  act_moves (CopyFromIndex g i) no_jump = λ s e. exact 1 (register_p g s _ ∙ e)
  act_moves (Exchange g i) no_jump = exchanged_moves g i
  act_moves (CountUp i) no_jump = stepped_index_moves i _
  act_moves (CountDown i) no_jump = stepped_index_moves i _
  act_moves LoadByte no_jump = loads Here (Gone 1) Byte r.b _ (λ w s e. exact 1 e)
  act_moves StoreByte no_jump =
      either Here (Gone 1) (is_register Execute (word_at Byte r.b)) (stop Refusal.InRegisters) _ tt (λ w s e. exact 1 e)
  act_moves (Move u) no_jump =
      counts Here (Gone 3) r _ (λ _ _. exact 3 refl)
      (λ c. string_moves Here (Gone 3) _ _ (λ s e. exact 3 e))
  act_moves (Action.Compare u) no_jump =
      counts Here (Gone 3) r _ (λ _ _. exact 3 refl)
      (λ c. comparing_moves u (along u r.b c) (along u r.a 0) (along u r.b 0) c)
  act_moves (Mask x) no_jump = λ _ m _ _ at _ mask w. mask_moves x mask w at
  act_moves (Action.NotBuilt w) no_jump =
      either Here (Gone 1) (protecting r.wmap && privileged w) violate (stop Refusal.NotBuilt) tt tt

  -- what a completed action leaves
  abbrev Left : ℕ → Outcome → Type 0
  Left n (done s m) = Gone n s
  Left n violated = Unit
  Left n (refused refusal) = Unit
  Left n bad_call = Unit

  carrying : (n : ℕ) → Carrying Here (Gone n) (λ _. Unit) (Left n)
  carrying n =
      record {
        in_a = λ s v e. e;
        in_b = λ s v e. e;
        in_memory = λ m i v _. tt;
        completion = λ s m e _. e;
        violation = tt;
        refusal = λ _. tt;
      }

pub moves_on : (a : Action) → jumping a ≡ false → (pages : List ℕ) (r s : Registers) (m n : List ℕ)
    → exec pages (act a r) r m ≡ done s n → (k : ℕ) × (k ≤ 2) × (s.p ≡ address r.p (action_words a + k))
moves_on a no_jump pages r s m n h =
    rw h at (exec_holds (carrying r (action_words a)) pages (act a r) (act_moves r a no_jump) r m refl tt)

pub code_moves_on : (x : Extended) (pages : List ℕ) (r s : Registers) (m n : List ℕ)
    → exec pages (act (extended_action x) r) r m ≡ done s n → (k : ℕ) × (k ≤ 2) × (s.p ≡ address r.p (length_of x + k))
code_moves_on x pages r s m n h = rw (lengths x) at (moves_on (extended_action x) (of_table x).1 pages r s m n h)
