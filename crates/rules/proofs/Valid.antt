-- The program of a step keeps the record valid, and where a step replies 0 it keeps WMAP.
--     moved_valid .. interrupted_valid            records that stay valid
--     moved_sound .. step_act_sound               the program of each action, and of a step, keeps validity and WMAP
--     After, step_sound                           so of the registers after a step
--     step_valid                                  which are valid
-- A good call is the machine's. Assumes nothing.
use Prim.Native.Nat.{ℕ, zero, suc, ◌<◌, ◌+◌, ◌*◌, ◌%◌}
use native.Mathlib.Omega.{arith}
use mathlib.Core.Path.{◌≡◌, refl, sym}
use mathlib.Core.Bool.{Bool, true, false, cond, not, ◌&&◌, ◌||◌}
use mathlib.Core.List.{List}
use lib.Dec.{eqb, ltb}
use borrow.Author.Tests.{lt-ltb}
use Rattle.std.proofs.Common.{Option, Some, None}
use Rattle.word.specs.Words.{weight, every_bit_set}
use Rattle.word.specs.Sums.{sum, incremented, decremented, address}
use Rattle.word.specs.Products.{divided}
use Rattle.word.specs.declared.products.Quotient.{Quotient}
use Rattle.word.specs.declared.long.LongShift.{LongShift}
use Rattle.maps.specs.Pages.{protecting, is_register}
use Rattle.maps.proofs.Laws.{switched_off}
use Rattle.maps.specs.declared.pages.Map.TheVariants.{Execute}
use Rattle.code.specs.Codes.{privileged}
use Rattle.code.specs.Instructions.{reading}
use Rattle.acts.specs.Record.{with_a, with_b, with_p, with_trap, with_lights, in_register, with_register, in_index, with_index, valid, interrupted, ahead}
use Rattle.acts.specs.Replies.{number}
use Rattle.acts.specs.Acts.{Act, fin, stop, violate, load, go_on}
use Rattle.acts.specs.Acts.{Outcome, exec, answer}
use Rattle.effects.specs.Ways.{flagged, quotient, taken, way_act}
use Rattle.effects.specs.Group.{shift_rotated, alter_ended, alter_skipped, long_rotated, copied_to_index, copied_from_index, exchanged, index_stepped, picked, panel_act, is_halt, io_act}
use Rattle.strings.specs.Strings.{word_at, along, value_of, order_of, comparing}
use Rattle.strings.specs.Strings.{byte_loaded, byte_stored, move_act, compare_act, masked, mask_act}
use Rattle.rules.specs.Rules.{words_of, action, act, rule, holds, trap_rule, step_act}
use Rattle.acts.specs.declared.record.Registers.{Registers}
use Rattle.acts.specs.declared.replies.Refusal.{Refusal}
use Rattle.code.specs.declared.codes.Register.{Register}
use Rattle.code.specs.declared.codes.Register.TheVariants.{A, B}
use Rattle.code.specs.declared.codes.Index.{Index}
use Rattle.code.specs.declared.codes.Index.TheVariants.{X, Y}
use Rattle.code.specs.declared.instructions.ShiftRotate.{ShiftRotate}
use Rattle.code.specs.declared.instructions.AlterSkip.{AlterSkip}
use Rattle.code.specs.declared.instructions.InputOutput.{InputOutput}
use Rattle.code.specs.declared.instructions.IoOperation.TheVariants.{Hlt, Flag, Sfc, Sfs, Mia, Lia, Ota, Control}
use Rattle.code.specs.declared.instructions.Operation.{Operation}
use Rattle.effects.specs.declared.ways.Taking.{Taking}
use Rattle.effects.specs.declared.ways.Taking.TheVariants.{And, Xor, Ior, Add, Compare, Load, Multiply, Divide, LoadIndex, AddIndex}
use Rattle.effects.specs.declared.ways.Way.{Way}
use Rattle.effects.specs.declared.ways.Way.TheVariants.{Take, Put, LoadDouble, StoreDouble, StepAndSkip, Jump, JumpSaving}
use Rattle.rules.specs.declared.actions.Action.{Action}
use Rattle.rules.specs.declared.actions.Action.TheVariants.{At, CopyToIndex, CopyFromIndex, Exchange, CountUp, CountDown, LoadByte, StoreByte, Move, Mask}
use Rattle.strings.specs.declared.strings.Element.{Element}
use Rattle.strings.specs.declared.strings.Element.TheVariants.{Byte}
use Rattle.code.specs.declared.codes.Bits.{Bits}
use Rattle.code.specs.declared.codes.Bits.TheVariants.{Sbs, Cbs, Tbs}
use Rattle.code.proofs.Truth.{never}
use Rattle.acts.proofs.Keeping.{Keeps, Carries, exec_holds}
use Rattle.rules.proofs.Parts.{either, ordered, string_moves, loads, counts, reaches}

-- Valid records.

abbrev pub Valid : Registers → Type 0
Valid r = valid r ≡ true

-- the four tests, and that other ones may take the place of the first
pub record Four (a b c d : Bool) : Type 0 where
  pub one : a ≡ true
  pub two : b ≡ true
  pub three : c ≡ true
  pub four : d ≡ true

pub four_hold : (a b c d : Bool) → (a && b && c && d) ≡ true → Four a b c d
four_hold true true true true e = record { one = refl; two = refl; three = refl; four = refl }
four_hold true true true false e = never (sym e)
four_hold true true false d e = never (sym e)
four_hold true false c d e = never (sym e)
four_hold false b c d e = never (sym e)

pub hold_four : {a b c d : Bool} → Four a b c d → (a && b && c && d) ≡ true
hold_four h = rw (h.one, h.two, h.three, h.four)

pub parts : (r : Registers) → Valid r
    → Four (ltb r.p 0o100000) (ltb r.violation 0o100000) (eqb r.interrupt 0 || eqb r.interrupt 7) (eqb r.trap 0 || eqb r.trap 7 && not (protecting r.wmap))
parts r h = four_hold _ _ _ _ h

-- P may be any address of 15 bits
pub moved_valid : (r : Registers) (q : ℕ) → q < 0o100000 → Valid r → Valid (with_p r q)
moved_valid r q l h =
    let t = parts r h in hold_four (record { one = lt-ltb q 0o100000 l; two = t.two; three = t.three; four = t.four })

pub trapped_valid : (r : Registers) (q : ℕ) → q < 0o100000 → Valid r → Valid (with_trap (with_p r q) 0)
trapped_valid r q l h =
    let t = parts r h in hold_four (record { one = lt-ltb q 0o100000 l; two = t.two; three = t.three; four = refl })

pub address_fits : (a n : ℕ) → address a n < 0o100000
address_fits a n = omega arith

pub interrupted_valid : (r : Registers) → Valid r → Valid (interrupted r)
interrupted_valid r h = rw ((parts r h).one, switched_off r.wmap)

-- Records that stay valid and keep WMAP.
module _ (wmap : ℕ) where
  abbrev pub Sound : Registers → Type 0
  Sound r = Valid r × (r.wmap ≡ wmap)

  -- P may be any address of 15 bits
  moved_sound : (r : Registers) (q : ℕ) → q < 0o100000 → Sound r → Sound (with_p r q)
  moved_sound r q l h = (moved_valid r q l h.0, h.1)

  trapped_sound : (r : Registers) (q : ℕ) → q < 0o100000 → Sound r → Sound (with_trap (with_p r q) 0)
  trapped_sound r q l h = (trapped_valid r q l h.0, h.1)

  ahead_sound : (n : ℕ) (r : Registers) → Sound r → Sound (ahead n r)
  ahead_sound n r h = moved_sound r (address r.p n) (address_fits r.p n) h

  register_sound : (g : Register) (r : Registers) (v : ℕ) → Sound r → Sound (with_register g r v)
  register_sound A r v h = h
  register_sound B r v h = h

  index_sound : (i : Index) (r : Registers) (v : ℕ) → Sound r → Sound (with_index i r v)
  index_sound X r v h = h
  index_sound Y r v h = h

  quotient_sound : (q : Option Quotient) (r : Registers) → Sound r → Sound (quotient q r)
  quotient_sound (Some q) r h = h
  quotient_sound None r h = h

  choice_sound : (b : Bool) (r s : Registers) → Sound r → Sound s → Sound (cond b r s)
  choice_sound true r s p q = p
  choice_sound false r s p q = q

  -- Programs that keep both.

  abbrev KeepsSound : Act → Type 0
  KeepsSound = Keeps Sound

  go_on_sound : (a n : ℕ) → KeepsSound (go_on (address a n))
  go_on_sound a n s h = moved_sound s (address a n) (address_fits a n) h

  taken_sound : (t : Taking) (w n : ℕ) (s : Registers) → Sound s → Sound (taken t w n s)
  taken_sound And w n s h = ahead_sound n s h
  taken_sound Xor w n s h = ahead_sound n s h
  taken_sound Ior w n s h = ahead_sound n s h
  taken_sound (Add g) w n s h =
      ahead_sound n (with_register g (flagged (sum (in_register g s) w) s) (sum (in_register g s) w).word)
      (register_sound g (flagged (sum (in_register g s) w) s) (sum (in_register g s) w).word h)
  taken_sound (Compare g) w n s h = ahead_sound (n + weight (not (eqb (in_register g s) w))) s h
  taken_sound (Load g) w n s h = ahead_sound n (with_register g s w) (register_sound g s w h)
  taken_sound Multiply w n s h = ahead_sound n s h
  taken_sound Divide w n s h = ahead_sound n (quotient (divided s.b s.a w) s) (quotient_sound (divided s.b s.a w) s h)
  taken_sound (LoadIndex i) w n s h = ahead_sound n (with_index i s w) (index_sound i s w h)
  taken_sound (AddIndex i) w n s h =
      ahead_sound n (with_index i (flagged (sum (in_index i s) w) s) (sum (in_index i s) w).word)
      (index_sound i (flagged (sum (in_index i s) w) s) (sum (in_index i s) w).word h)

  way_sound : (way : Way) (r : Registers) (m n : ℕ) → m < 0o100000 → KeepsSound (way_act way r m n)
  way_sound (Take t map x) r m n l = λ w. taken_sound t w n
  way_sound (Put s map x) r m n l = go_on_sound r.p n
  way_sound LoadDouble r m n l = λ v w s. ahead_sound n (with_b (with_a s v) w)
  way_sound StoreDouble r m n l = go_on_sound r.p n
  way_sound StepAndSkip r m n l = λ w. go_on_sound r.p (n + weight (eqb (incremented w).word 0))
  way_sound Jump r m n l = λ s. moved_sound s m l
  way_sound JumpSaving r m n l = go_on_sound m 1

  -- shift/rotate, alter/skip, long shifts, the index registers

  shift_sound : (i : ShiftRotate) → KeepsSound (fin (shift_rotated i))
  unfolding shift_rotated
  shift_sound i s h = ahead_sound _ (with_register i.register s _) (register_sound i.register s _ h)

  alter_sound : (i : AlterSkip) → KeepsSound (fin (alter_skipped i))
  unfolding alter_skipped alter_ended
  alter_sound i s h = ahead_sound _ (with_register i.register _ _) (register_sound i.register _ _ (choice_sound i.ina _ _ h h))

  long_sound : (kind : LongShift) (n : ℕ) → KeepsSound (fin (long_rotated kind n))
  unfolding long_rotated
  long_sound kind n s h = ahead_sound 1 s h

  to_index_sound : (g : Register) (i : Index) → KeepsSound (fin (copied_to_index g i))
  to_index_sound g i s h = ahead_sound 1 (with_index i s (in_register g s)) (index_sound i s (in_register g s) h)

  from_index_sound : (g : Register) (i : Index) → KeepsSound (fin (copied_from_index g i))
  from_index_sound g i s h = ahead_sound 1 (with_register g s (in_index i s)) (register_sound g s (in_index i s) h)

  exchanged_sound : (g : Register) (i : Index) → KeepsSound (fin (exchanged g i))
  exchanged_sound g i s h =
      ahead_sound 1 (with_index i (with_register g s (in_index i s)) (in_register g s))
      (index_sound i (with_register g s (in_index i s)) (in_register g s) (register_sound g s (in_index i s) h))

  stepped_index_sound : (i : Index) (w : ℕ) → KeepsSound (fin (index_stepped i w))
  stepped_index_sound i w s h = ahead_sound (1 + weight (eqb w 0)) (with_index i s w) (index_sound i s w h)

  -- I/O

  panel_sound : (io : InputOutput) → KeepsSound (panel_act io)
  unfolding panel_act
  panel_sound io =
      elim io.operation as (λ o. KeepsSound (panel_act (record { operation = o; bit11 = io.bit11; bit9 = io.bit9; select = io.select }))) [
        | Hlt ↦ tt
        | Flag ↦ ahead_sound 1
        | Sfc ↦ λ s. ahead_sound (1 + weight (not s.o)) s
        | Sfs ↦ λ s. ahead_sound (1 + weight s.o) s
        | Mia ↦ tt
        | Lia ↦
            either Sound Sound io.bit9 (stop Refusal.InputOutput) (fin (λ s. ahead 1 (with_register (picked io.bit11) s (s.switches * 256)))) tt
            (λ s h. ahead_sound 1 (with_register (picked io.bit11) s (s.switches * 256)) (register_sound (picked io.bit11) s (s.switches * 256) h))
        | Ota ↦
            either Sound Sound io.bit9 (stop Refusal.InputOutput) (fin (λ s. ahead 1 (with_lights s (in_register (picked io.bit11) s % 256)))) tt (ahead_sound 1)
        | Control ↦ tt
      ]

  io_sound : (io : InputOutput) (r : Registers) → KeepsSound (io_act io r)
  unfolding io_act
  io_sound io r =
      either Sound Sound (protecting r.wmap && (is_halt io.operation || not (eqb io.select 1))) violate _ tt
      (either Sound Sound (eqb io.select 1) (panel_act io) (stop Refusal.InputOutput) (panel_sound io) tt)

  -- words and bytes, and strings of them

  comparing_sound : (u : Element) (end s d n : ℕ) → KeepsSound (comparing u end s d n)
  unfolding comparing
  comparing_sound u end s d zero = ahead_sound 3
  comparing_sound u end s d (suc n) =
      loads Sound Sound u s _ (λ v. loads Sound Sound u d _ (λ w. ordered Sound Sound (order_of u (value_of u s v) (value_of u d w)) _ _ _
      (ahead_sound 4) (comparing_sound u end (along u s 1) (along u d 1) n) (ahead_sound 5)))

  byte_loaded_sound : (r : Registers) → KeepsSound (byte_loaded r)
  byte_loaded_sound r = loads Sound Sound Byte r.b _ (λ w. ahead_sound 1)

  byte_stored_sound : (r : Registers) → KeepsSound (byte_stored r)
  byte_stored_sound r =
      either Sound Sound (is_register Execute (word_at Byte r.b)) (stop Refusal.InRegisters) _ tt (λ w. ahead_sound 1)

  move_sound : (u : Element) (r : Registers) → KeepsSound (move_act u r)
  move_sound u r = counts Sound Sound r _ (go_on_sound r.p 3) (λ c. string_moves Sound Sound _ _ (ahead_sound 3))

  compare_sound : (u : Element) (r : Registers) → KeepsSound (compare_act u r)
  compare_sound u r =
      counts Sound Sound r _ (go_on_sound r.p 3)
      (λ c. comparing_sound u (along u r.b c) (along u r.a 0) (along u r.b 0) c)

  masked_sound : (x : Bits) (r : Registers) (mask w at : ℕ) → KeepsSound (masked x r mask w at)
  masked_sound Sbs r mask w at = go_on_sound r.p 3
  masked_sound Cbs r mask w at = go_on_sound r.p 3
  masked_sound Tbs r mask w at = go_on_sound r.p (3 + weight (not (every_bit_set mask w)))

  mask_sound : (x : Bits) (r : Registers) → KeepsSound (mask_act x r)
  mask_sound x r = λ _ m _ _ at _ mask w. masked_sound x r mask w at

  -- the rules

  act_sound : (a : Action) (r : Registers) → KeepsSound (act a r)
  act_sound (At way from) r = reaches Sound Sound from r _ (λ m l. way_sound way r m (words_of from) l)
  act_sound (Action.ShiftRotate i) r = shift_sound i
  act_sound (Action.AlterSkip i) r = alter_sound i
  act_sound (Action.InputOutput io) r = io_sound io r
  act_sound (Action.LongShift kind n) r = long_sound kind n
  act_sound (CopyToIndex g i) r = to_index_sound g i
  act_sound (CopyFromIndex g i) r = from_index_sound g i
  act_sound (Exchange g i) r = exchanged_sound g i
  act_sound (CountUp i) r = stepped_index_sound i (incremented (in_index i r)).word
  act_sound (CountDown i) r = stepped_index_sound i (decremented (in_index i r)).word
  act_sound LoadByte r = byte_loaded_sound r
  act_sound StoreByte r = byte_stored_sound r
  act_sound (Move u) r = move_sound u r
  act_sound (Action.Compare u) r = compare_sound u r
  act_sound (Mask x) r = mask_sound x r
  act_sound (Action.NotBuilt w) r = either Sound Sound (protecting r.wmap && privileged w) violate (stop Refusal.NotBuilt) tt tt

  trap_sound : (w : ℕ) (r : Registers) → KeepsSound (trap_rule w r)
  unfolding trap_rule
  trap_sound w r =
      either Sound Sound (holds Operation.Jmp w) _ _ (λ m l s. trapped_sound s m l)
      (either Sound Sound (holds Operation.Jsb w) _ (stop Refusal.TrapCell) (λ m l s. trapped_sound s (address m 1) (address_fits m 1)) tt)

  pub step_act_sound : (r : Registers) → KeepsSound (step_act r)
  step_act_sound r =
      either Sound Sound (eqb r.trap 0) (load Execute r.p (λ w. rule (reading w) r)) (load Execute r.trap (λ w. trap_rule w r))
      (λ w. act_sound (action (reading w) r.p) r) (λ w. trap_sound w r)

-- A step.

-- a step's registers are valid, and where it replies 0 WMAP is as it was
abbrev pub After : Registers → Outcome → Type 0
After r x = Valid (answer r x).registers × (eqb (number (answer r x).reply) 0 ≡ true → (answer r x).registers.wmap ≡ r.wmap)

carries_sound : (r : Registers) → Valid r → Carries (Sound r.wmap) (λ _. Unit) (After r)
carries_sound r h =
    record {
      in_a = λ s v e. e;
      in_b = λ s v e. e;
      in_memory = λ m i v _. tt;
      completion = λ s m e _. (e.0, λ q. e.1);
      violation = (interrupted_valid r h, λ q. never (sym q));
      refusal = λ refusal. (h, λ q. refl);
    }

pub step_sound : (pages : List ℕ) (r : Registers) (m : List ℕ) → valid r ≡ true → After r (exec pages (step_act r) r m)
step_sound pages r m h = exec_holds (carries_sound r h) pages (step_act r) (step_act_sound r.wmap r) r m (h, refl) tt

pub step_valid : (pages : List ℕ) (r : Registers) (m : List ℕ) → valid r ≡ true
    → valid (answer r (exec pages (step_act r) r m)).registers ≡ true
step_valid pages r m h = (step_sound pages r m h).0
