-- The theorems of specs/Budgets, by name.
--     running_cut      the steps of a budget cut in two
--     running_good     the call stays good
-- Assumes nothing.
use Prim.Native.Nat.{ℕ, zero, suc, ◌+◌, ◌≤◌}
use native.Mathlib.Omega.{arith}
use native.Mathlib.Nat.{zero-add, add_assoc, suc-add}
use mathlib.Core.Path.{◌≡◌, refl, sym, ◌∙◌, ap}
use mathlib.Core.Bool.{Bool, true, false, cond}
use mathlib.Core.List.{List}
use lib.Dec.{eqb, leb}
use lib.ListN.{length}
use borrow.Author.Tests.{leb-true, le-leb, eq-eqb, ne_eqb}
use Rattle.word.specs.Words.{weight}
use Rattle.acts.specs.Acts.{answer, left}
use Rattle.acts.specs.Replies.{number}
use Rattle.machine.specs.Step.{good_call, stepped, Leaves, ending, counting, after, running, ran, Runs}
use Rattle.acts.specs.declared.record.Registers.{Registers}
use Rattle.acts.specs.declared.replies.Stepped.{Stepped}
use Rattle.machine.proofs.Good.{good_kept}
use Rattle.answers.specs.Budgets.{plus, onward, Cut, CutPromise}

-- the first step, and a cut among the steps after it
after_onward : (t : Stepped) (later : List ℕ) (rest : Leaves) (next : Registers → List ℕ → Leaves)
    → after t later (onward rest next) ≡ onward (after t later rest) next
after_onward t later rest next = go (eqb (number t.reply) 0) refl
  where
    ended : Leaves
    ended = ending t.reply (weight (eqb (number t.reply) 1)) t.registers later

    more : (b : Bool) → counting (cond b (plus rest.ran.count (next rest.ran.registers rest.memory)) rest)
        ≡ cond b (plus (1 + rest.ran.count) (next rest.ran.registers rest.memory)) (counting rest)
    more true = rw add_assoc
    more false = refl

    go : (b : Bool) → eqb (number t.reply) 0 ≡ b → cond b (counting (onward rest next)) ended ≡ onward (cond b (counting rest) ended) next
    go true e = more (eqb (number rest.ran.reply) 0)
    go false e = rw e

pub running_cut : (pages : List ℕ) (first second : ℕ) (r : Registers) (m : List ℕ)
    → running pages (first + second) r m ≡ onward (running pages first r m) (running pages second)
unfolding running
running_cut pages zero second r m = rw (zero-add, zero-add)
running_cut pages (suc n) second r m =
    let t : Stepped = answer r (stepped pages r m) in
    let later : List ℕ = left m (stepped pages r m) in
    rw suc-add
    (ap (after t later) (running_cut pages n second t.registers later) ∙ after_onward t later (running pages n t.registers later) (running pages second))

good_after : (pages : List ℕ) (t : Stepped) (later : List ℕ) (rest : Leaves)
    → good_call (length pages) (length later) t.registers ≡ true
    → good_call (length pages) (length rest.memory) rest.ran.registers ≡ true
    → good_call (length pages) (length (after t later rest).memory) (after t later rest).ran.registers ≡ true
good_after pages t later rest g h = go (eqb (number t.reply) 0)
  where
    ended : Leaves
    ended = ending t.reply (weight (eqb (number t.reply) 1)) t.registers later

    go : (b : Bool) → good_call (length pages) (length (cond b (counting rest) ended).memory) (cond b (counting rest) ended).ran.registers ≡ true
    go true = h
    go false = g

pub running_good : (pages : List ℕ) (budget : ℕ) (r : Registers) (m : List ℕ) → good_call (length pages) (length m) r ≡ true
    → good_call (length pages) (length (running pages budget r m).memory) (running pages budget r m).ran.registers ≡ true
unfolding running
running_good pages zero r m good = good
running_good pages (suc n) r m good =
    let t : Stepped = answer r (stepped pages r m) in
    let later : List ℕ = left m (stepped pages r m) in
    good_after pages t later (running pages n t.registers later) (good_kept pages r m good)
    (running_good pages n t.registers later (good_kept pages r m good))

at_most : (n k : ℕ) → n ≤ k → leb k 1000000 ≡ true → leb n 1000000 ≡ true
at_most n k l h = le-leb n 1000000 (omega (arith, leb-true k 1000000 h))

pub cut : Cut
unfolding ran
cut pages first second r m few = go (good_call (length pages) (length m) r) refl
  where
    go : (b : Bool) → good_call (length pages) (length m) r ≡ b → ran pages (first + second) r m ≡ onward (ran pages first r m) (ran pages second)
    go true e =
        rw (
          e,
          few,
          at_most first (first + second) (omega arith) few,
          running_good pages first r m e,
          at_most second (first + second) (omega arith) few,
        )
        (running_cut pages first second r m)
    go false e = rw e

pub cut_promise : CutPromise
cut_promise pages first second r m few s s₁ s₂ later later₁ later₂ n n₁ n₂ whole one two =
    let same : later₁ ≡ pages = one.registers in
    let l : Leaves = ran pages first r m in
    let k : Leaves = ran pages second l.ran.registers l.memory in
    let then-two : Runs pages second l.ran.registers l.memory s₂ later₂ n₂ = rw (same, one.goes.outcome, one.goes.memory) at two in
    let e : ran pages (first + second) r m ≡ onward l (ran pages second) = cut pages first second r m few in
    record {
      spent = λ z.
          let q : ran pages (first + second) r m ≡ plus l.ran.count k = e ∙ rw (eq-eqb _ 0 (rw one.goes.outcome at z)) in (
            whole.goes.outcome ∙ ap (λ (x : Leaves). x.ran) q ∙ rw (one.goes.outcome, then-two.goes.outcome),
            whole.registers ∙ sym then-two.registers,
            whole.goes.memory ∙ ap (λ (x : Leaves). x.memory) q ∙ sym then-two.goes.memory,
          );
      stopped = λ z.
          let q : ran pages (first + second) r m ≡ l = e ∙ rw (ne_eqb _ 0 (rw one.goes.outcome at z)) in (
            whole.goes.outcome ∙ ap (λ (x : Leaves). x.ran) q ∙ sym one.goes.outcome,
            whole.registers ∙ sym same,
            whole.goes.memory ∙ ap (λ (x : Leaves). x.memory) q ∙ sym one.goes.memory,
          );
    }
