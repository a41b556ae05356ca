-- Where the parts that rules are made of lead, whatever is asked of registers while they run and where they end.
--     either, ordered                       a choice between programs
--     opens, presents, saves, moves, string_moves, loads, counts    of words and bytes
--     reaches                               an instruction's address word
-- Assumes nothing.
use Prim.Native.Nat.{ℕ, zero, suc, ◌<◌}
use mathlib.Core.Bool.{Bool, true, false, cond}
use Rattle.word.specs.Sums.{address}
use Rattle.std.specs.declared.cmp.Ordering.{Ordering}
use Rattle.maps.specs.Pages.{is_register}
use Rattle.maps.specs.declared.pages.Map.{Map}
use Rattle.maps.specs.declared.pages.Map.TheVariants.{Execute}
use Rattle.maps.specs.declared.pages.Purpose.{Purpose}
use Rattle.acts.specs.Acts.{Act, stop, load, go_on}
use Rattle.acts.specs.declared.record.Registers.{Registers}
use Rattle.acts.specs.declared.replies.Refusal.{Refusal}
use Rattle.strings.specs.Strings.{word_at, along, value_of, purpose_of, saving, opens_all, present_all, moving, touched, moved, on_order, load_element, none_to_do, counted}
use Rattle.strings.specs.declared.moves.Move.{Move as Job}
use Rattle.strings.specs.declared.strings.Element.{Element}
use Rattle.strings.specs.declared.strings.Element.TheVariants.{Word, Byte}
use Rattle.rules.specs.Rules.{reached}
use Rattle.rules.specs.declared.actions.Operand.{Operand}
use Rattle.rules.specs.declared.actions.Operand.TheVariants.{Made, Next}
use Rattle.acts.proofs.Keeping.{Leads}

module _ (D A : Registers → Type 0) where
  pub either : (b : Bool) (x y : Act) → Leads D A x → Leads D A y → Leads D A (cond b x y)
  either true x y p q = p
  either false x y p q = q

  pub ordered : (o : Ordering) (x y z : Act) → Leads D A x → Leads D A y → Leads D A z → Leads D A (on_order o x y z)
  ordered Ordering.Less x y z p q h = p
  ordered Ordering.Equal x y z p q h = q
  ordered Ordering.Greater x y z p q h = h

  pub opens : (u : Element) (map : Map) (purpose : Purpose) (at n : ℕ) (k : Act) → Leads D A k → Leads D A (opens_all u map purpose at n k)
  unfolding opens_all
  opens u map purpose at zero k h = h
  opens u map purpose at (suc n) k h = opens u map purpose (along u at 1) n k h

  pub presents : (u : Element) (map : Map) (at n : ℕ) (k : Act) → Leads D A k → Leads D A (present_all u map at n k)
  unfolding present_all
  presents u map at zero k h = h
  presents u map at (suc n) k h = presents u map (along u at 1) n k h

  pub saves : (u : Element) (map : Map) (at v : ℕ) (k : Act) → Leads D A k → Leads D A (saving u map at v k)
  saves Word map at v k h = h
  saves Byte map at v k h = λ w. h

  pub moves : (u : Element) (from to : Map) (s d n : ℕ) (k : Act) → Leads D A k → Leads D A (moving u from to s d n k)
  unfolding moving
  moves u from to s d zero k h = h
  moves u from to s d (suc n) k h =
      λ w. saves u to d (value_of u s w) (moving u from to (along u s 1) (along u d 1) n k)
      (moves u from to (along u s 1) (along u d 1) n k h)

  pub string_moves : (j : Job) (k : Act) → Leads D A k → Leads D A (moved j k)
  string_moves j k h =
      either (touched j) (stop Refusal.InRegisters) _ tt
      (opens j.element j.from Purpose.Read j.source j.count _ (opens j.element j.to (purpose_of j.element) j.target j.count _
      (presents j.element j.from j.source j.count _ (presents j.element j.to j.target j.count _
      (moves j.element j.from j.to j.source j.target j.count k h)))))

  pub loads : (u : Element) (at : ℕ) (k : ℕ → Act) → ((w : ℕ) → Leads D A (k w)) → Leads D A (load_element u at k)
  loads u at k h = either (is_register Execute (word_at u at)) (stop Refusal.InRegisters) (load Execute (word_at u at) k) tt h

  pub counts : (r : Registers) (k : ℕ → Act) → Leads D A (go_on (address r.p 3)) → ((c : ℕ) → Leads D A (k c))
      → Leads D A (counted r k)
  counts r k none h = λ w at l c. either (none_to_do c) (go_on (address r.p 3)) (k c) none (h c)

  pub reaches : (from : Operand) (r : Registers) (k : ℕ → Act) → ((m : ℕ) → m < 0o100000 → Leads D A (k m))
      → Leads D A (reached from r k)
  reaches (Made word) r k h = h
  reaches Next r k h = λ w. h
