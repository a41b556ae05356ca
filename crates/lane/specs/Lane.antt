-- What the functions of this crate promise; a reader may skip it. What a step is, is in `Rules` of the crate `rules`.
--     Tried      a program that was completed, or nothing changed
--     Led        an address word that leads somewhere
--     Keeps      a store in memory, past which a program goes on with the same registers
--     Steps      ISZ, but for its skip
--     carried    a word that needs no second one, at its address
--     Rolls      steps, one after another
-- Assumes nothing.
use Rattle.std.specs.Prelude.{ℕ, suc, ◌+◌, ◌/◌, ◌%◌, ◌≡◌, cond, List, eqb, leb, Option, Some, None, Ok}
use Rattle.word.specs.Words.{bit, weight}
use Rattle.maps.specs.Chains.{chain}
use Rattle.maps.specs.declared.pages.Map.TheVariants.{Execute}
use Rattle.code.specs.Instructions.{operation_at, shift_rotate, alter_skip}
use Rattle.acts.specs.Record.{ahead}
use Rattle.acts.specs.Acts.{Act, save, done, exec}
use Rattle.acts.specs.declared.record.Registers.{Registers}
use Rattle.effects.specs.Ways.{way_act}
use Rattle.effects.specs.declared.ways.Way.TheVariants.{StepAndSkip}
use Rattle.rules.specs.Rules.{memory_way, rule, step_act}

-- None: the step is left to the general step, with nothing changed
abbrev pub Tried : List ℕ → Act → Registers → List ℕ → Option Registers → List ℕ → Type 0
Tried pages act r m None n = n ≡ m
Tried pages act r m (Some s) n = exec pages act r m ≡ done s n

-- None: the general step is to find out
abbrev pub Led : List ℕ → ℕ → Registers → List ℕ → Option ℕ → Type 0
Led pages word r m (Some to) = chain pages m r.wmap word r.a r.b ≡ Ok to
Led pages word r m None = Unit

-- None: nothing is stored
abbrev pub Keeps : List ℕ → ℕ → ℕ → ℕ → List ℕ → Option Unit → List ℕ → Type 0
Keeps pages wmap at v m None n = n ≡ m
Keeps pages wmap at v m (Some stored) n = (r : Registers) (k : Act) → r.wmap ≡ wmap → exec pages (save Execute at v k) r m ≡ exec pages k r n

-- None: nothing is stored. Else ISZ is completed, by the skip that the word asks for
abbrev pub Steps : List ℕ → ℕ → Registers → List ℕ → Option ℕ → List ℕ → Type 0
Steps pages at r m None n = n ≡ m
Steps pages at r m (Some w) n = exec pages (way_act StepAndSkip r at 1) r m ≡ done (ahead (1 + weight (eqb w 0)) r) n

-- a memory reference at its address, or a shift/rotate or alter/skip word
unfoldable pub carried : ℕ → ℕ → Registers → Act
carried word at r =
    cond (leb 2 (word / 0o4000 % 16)) (way_act (memory_way (operation_at (word / 0o4000 % 16))) r at 1)
    (rule (cond (bit 10 word) (alter_skip word) (shift_rotate word)) r)

-- so many steps, each completed, lead from r and m to s and n
pub data Rolls (pages : List ℕ) (r : Registers) (m : List ℕ) : ℕ → Registers → List ℕ → Type 0 where
  none : Rolls pages r m 0 r m
  one_more : {count : ℕ} {s t : Registers} {n later : List ℕ} → Rolls pages r m count s n
      → exec pages (step_act s) s n ≡ done t later → Rolls pages r m (suc count) t later
