-- How an instruction comes to its address: what the proof of `perform::go_way` cites.
--     Starts, by_next, by_word      the address word of an instruction: its next word, or the word made from it
--     arrives                       from there to where it leads, where the instruction goes its way
-- Where an address word leads is in `Operands` of the crate `acts`. Assumes nothing.
use Prim.Native.Nat.{ℕ}
use mathlib.Core.Path.{◌≡◌, refl}
use mathlib.Core.List.{List}
use Rattle.word.specs.Sums.{address}
use Rattle.maps.specs.declared.pages.Map.{Map}
use Rattle.acts.specs.Acts.{Act, load, follow, exec, Performs, Gives}
use Rattle.effects.specs.Ways.{way_act}
use Rattle.rules.specs.Rules.{reached, words_of, act}
use Rattle.acts.specs.declared.record.Registers.{Registers}
use Rattle.acts.specs.declared.replies.Stop.{Stop}
use Rattle.effects.specs.declared.ways.Way.{Way}
use Rattle.rules.specs.declared.actions.Operand.{Operand}
use Rattle.rules.specs.declared.actions.Action.{Action}
use Rattle.acts.proofs.Operands.{had_value, Leads}
use Rattle.std.specs.Prelude.{Result, Ok}
use Rattle.maps.specs.declared.troubles.Trouble.{Trouble}

-- `at` is the address word of an instruction, which is so many words long
pub record Starts (pages : List ℕ) (from : Operand) (r : Registers) (m : List ℕ) (at words : ℕ) : Type 0 where
  pub goes : (k : ℕ → Act) → exec pages (reached from r k) r m ≡ exec pages (follow at k) r m
  pub length : words ≡ words_of from

module _ (pages : List ℕ) (r : Registers) (m : List ℕ) {from : Operand} {at words : ℕ} where
  pub by_next : {g : Result ℕ Trouble} {w : ℕ} → from ≡ Operand.Next → Gives pages (load Map.Execute (address r.p 1)) r m g → g ≡ Ok w
      → at ≡ w → words ≡ 2 → Starts pages from r m at words
  by_next e gives f a l = rw (e, a, l) (record { goes = λ k. had_value gives f (λ w. follow w k); length = refl })

  pub by_word : {word : ℕ} → from ≡ Operand.Made word → at ≡ word → words ≡ 1 → Starts pages from r m at words
  by_word e a l = rw (e, a, l) (record { goes = λ k. refl; length = refl })

pub arrives : {pages : List ℕ} {from : Operand} {r : Registers} {m n : List ℕ} {at words to : ℕ} {s : Result Registers Stop} (way : Way)
    → Starts pages from r m at words → Leads pages r m at to → Performs pages (way_act way r to words) r m s n
    → Performs pages (act (Action.At way from) r) r m s n
arrives {from = from} {r = r} way starts leads h =
    rw (starts.goes (λ q. way_act way r q (words_of from)), leads.goes (λ q. way_act way r q (words_of from)), ← starts.length) h
