-- One step and a run of steps.
--     whole_pages, good_call     which calls are good
--     stepped                  the result of a step
--     Steps                    what `step` promises
--     Leaves, ending, counting, after, running, ran    a run: its reply, count, registers and memory
--     Runs                     what `run` promises
-- Assumes nothing.
use Rattle.std.specs.Prelude.{ℕ, zero, suc, ◌+◌, ◌%◌, ◌≡◌, Bool, cond, ◌&&◌, List, eqb, leb, length}
use Rattle.word.specs.Words.{weight}
use Rattle.acts.specs.Replies.{number}
use Rattle.acts.specs.Record.{valid}
use Rattle.acts.specs.Acts.{Outcome, bad_call, exec, answer, left}
use Rattle.rules.specs.Rules.{step_act}
use Rattle.acts.specs.declared.record.Registers.{Registers}
use Rattle.acts.specs.declared.replies.Reply.{Reply}
use Rattle.acts.specs.declared.replies.Stepped.{Stepped}
use Rattle.acts.specs.declared.replies.Ran.{Ran}

-- 01: "Memory: lent 16-bit words, 1 to 16,384 whole pages of 1,024 words."
abbrev pub whole_pages : ℕ → Bool
whole_pages n = eqb (n % 1024) 0 && leb 1024 n && leb n 16777216

-- 01, Bad call: "page registers not 1,024 words; memory not 1 to 16,384 whole pages; a register outside its range; trap waiting
-- with protection on"
abbrev pub good_call : ℕ → ℕ → Registers → Bool
good_call registers words r = eqb registers 1024 && whole_pages words && valid r

unfoldable pub stepped : List ℕ → Registers → List ℕ → Outcome
stepped pages r m = cond (good_call (length pages) (length m) r) (exec pages (step_act r) r m) bad_call

pub record Steps (pages : List ℕ) (r : Registers) (m : List ℕ) (s : Stepped) (later n : List ℕ) : Type 0 where
  pub outcome : s ≡ answer r (stepped pages r m)
  pub memory : n ≡ left m (stepped pages r m)
  pub registers : later ≡ pages

-- a run's answer with the memory that it leaves
pub record Leaves : Type 0 where
  pub ran : Ran
  pub memory : List ℕ

abbrev pub ending : Reply → ℕ → Registers → List ℕ → Leaves
ending reply count r m = record { ran = record { reply = reply; count = count; registers = r }; memory = m }

-- one more step was counted
abbrev pub counting : Leaves → Leaves
counting l = ending l.ran.reply (1 + l.ran.count) l.ran.registers l.memory

-- 01: "A run performs steps until the budget is spent (reply 0) or a step replies other than 0. Its count is the number of steps
-- that replied 0 or 1. For a run "as given" means as the completed steps left it."
abbrev pub after : Stepped → List ℕ → Leaves → Leaves
after t later rest =
    cond (eqb (number t.reply) 0) (counting rest)
    (ending t.reply (weight (eqb (number t.reply) 1)) t.registers later)

unfoldable pub running : List ℕ → ℕ → Registers → List ℕ → Leaves
running pages zero r m = ending Reply.Completed 0 r m
running pages (suc n) r m =
    let t : Stepped = answer r (stepped pages r m) in
    let later : List ℕ = left m (stepped pages r m) in
    let rest : Leaves = running pages n t.registers later in
    after t later rest

pub record Goes (l : Leaves) (s : Ran) (n : List ℕ) : Type 0 where
  pub outcome : s ≡ l.ran
  pub memory : n ≡ l.memory

-- 01, Bad call: "run budget over 1,000,000. It is tested first, also with budget 0."
unfoldable pub ran : List ℕ → ℕ → Registers → List ℕ → Leaves
ran pages budget r m =
    cond (good_call (length pages) (length m) r && leb budget 1000000) (running pages budget r m) (ending Reply.BadCall 0 r m)

pub record Runs (pages : List ℕ) (budget : ℕ) (r : Registers) (m : List ℕ) (s : Ran) (later n : List ℕ) : Type 0 where
  pub goes : Goes (ran pages budget r m) s n
  pub registers : later ≡ pages
