-- A budget cut in two: a run of m + n steps is a run of m and, where that replied 0, a run of n from what it left. What is
-- claimed; the proofs are in proofs/Budgets.
--     plus, onward          steps counted before; a run, and the one after it
--     Cut                   the same of what runs leave
--     Joined, CutPromise    and of what `run` promises, page registers included
-- Assumes nothing.
use Rattle.std.specs.Prelude.{ℕ, ◌+◌, ◌≡◌, true, cond, List, eqb, leb}
use Rattle.acts.specs.Replies.{number}
use Rattle.machine.specs.Step.{Leaves, ending, ran, Runs}
use Rattle.acts.specs.declared.record.Registers.{Registers}
use Rattle.acts.specs.declared.replies.Ran.{Ran}

-- what a run leaves, with n steps counted before
abbrev pub plus : ℕ → Leaves → Leaves
plus n l = ending l.ran.reply (n + l.ran.count) l.ran.registers l.memory

abbrev pub onward : Leaves → (Registers → List ℕ → Leaves) → Leaves
onward l next = cond (eqb (number l.ran.reply) 0) (plus l.ran.count (next l.ran.registers l.memory)) l

abbrev pub Cut : Type 0
Cut =
    (pages : List ℕ) (first second : ℕ) (r : Registers) (m : List ℕ) → leb (first + second) 1000000 ≡ true
    → ran pages (first + second) r m ≡ onward (ran pages first r m) (ran pages second)

-- s, later and n are of the whole run, those with 1 and 2 of the two parts
pub record Joined (s : Ran) (later n : List ℕ) (s₁ : Ran) (later₁ n₁ : List ℕ) (s₂ : Ran) (later₂ n₂ : List ℕ) : Type 0 where
  pub spent : number s₁.reply ≡ 0
      → (s ≡ record { reply = s₂.reply; count = s₁.count + s₂.count; registers = s₂.registers }) × (later ≡ later₂) × (n ≡ n₂)
  pub stopped : (number s₁.reply ≡ 0 → ⊥) → (s ≡ s₁) × (later ≡ later₁) × (n ≡ n₁)

abbrev pub CutPromise : Type 0
CutPromise =
    (pages : List ℕ) (first second : ℕ) (r : Registers) (m : List ℕ) → leb (first + second) 1000000 ≡ true
    → (s s₁ s₂ : Ran) (later later₁ later₂ n n₁ n₂ : List ℕ)
    → Runs pages (first + second) r m s later n
    → Runs pages first r m s₁ later₁ n₁ → Runs later₁ second s₁.registers n₁ s₂ later₂ n₂
    → Joined s later n s₁ later₁ n₁ s₂ later₂ n₂
