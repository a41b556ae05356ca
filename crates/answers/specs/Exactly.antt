-- 01, What a step replies, "Given exactly when": what is claimed; the proofs are in proofs/Exactly.
--     Ending, StepGood      a good call: 0 where it was completed, 1 where a violation was met, 2 to 7 where it was refused
--     RuleRefuses           what the rules refuse with
--     StepBad, StepGoodOnly reply 8: of every bad call, and of no good one
--     RunBad, RunGoodOnly   the same of a run
--     RunSpent, RunCount    reply 0 of a run, and its count
-- What each of 2 to 7 stands for is in the rules themselves: a rule names its reply where it stops.
-- Assumes nothing.
use Rattle.std.specs.Prelude.{ℕ, ◌≤◌, ◌≡◌, true, false, ◌&&◌, List, leb, length}
use Rattle.acts.specs.Acts.{Outcome, done, violated, refused, answer}
use Rattle.acts.specs.Replies.{number}
use Rattle.machine.specs.Step.{good_call, stepped, ran}
use Rattle.acts.specs.declared.record.Registers.{Registers}
use Rattle.acts.specs.declared.replies.Refusal.{Refusal}
use Rattle.acts.specs.declared.replies.Reply.{Reply}

-- how a step ended, by its number
pub data Ending (result : Outcome) : ℕ → Type 0 where
  completed : (s : Registers) (n : List ℕ) → result ≡ done s n → Ending result 0
  interrupted : result ≡ violated → Ending result 1
  refused_with : (refusal : Refusal) → result ≡ refused refusal → Ending result (number (Reply.Refused refusal))

abbrev pub StepGood : Type 0
StepGood =
    (pages : List ℕ) (r : Registers) (m : List ℕ) → good_call (length pages) (length m) r ≡ true
    → Ending (stepped pages r m) (number (answer r (stepped pages r m)).reply)

abbrev pub RuleRefuses : Type 0
RuleRefuses =
    (refusal : Refusal) → (2 ≤ number (Reply.Refused refusal)) × (number (Reply.Refused refusal) ≤ 7)

abbrev pub StepBad : Type 0
StepBad =
    (pages : List ℕ) (r : Registers) (m : List ℕ) → good_call (length pages) (length m) r ≡ false
    → number (answer r (stepped pages r m)).reply ≡ 8

abbrev pub StepGoodOnly : Type 0
StepGoodOnly =
    (pages : List ℕ) (r : Registers) (m : List ℕ) → good_call (length pages) (length m) r ≡ true
    → number (answer r (stepped pages r m)).reply ≤ 7

abbrev pub RunBad : Type 0
RunBad =
    (pages : List ℕ) (budget : ℕ) (r : Registers) (m : List ℕ) → good_call (length pages) (length m) r && leb budget 1000000 ≡ false
    → number (ran pages budget r m).ran.reply ≡ 8

abbrev pub RunGoodOnly : Type 0
RunGoodOnly =
    (pages : List ℕ) (budget : ℕ) (r : Registers) (m : List ℕ) → good_call (length pages) (length m) r && leb budget 1000000 ≡ true
    → number (ran pages budget r m).ran.reply ≤ 7

-- "until the budget is spent (reply 0)"
abbrev pub RunSpent : Type 0
RunSpent =
    (pages : List ℕ) (budget : ℕ) (r : Registers) (m : List ℕ)
    → number (ran pages budget r m).ran.reply ≡ 0 → (ran pages budget r m).ran.count ≡ budget

abbrev pub RunCount : Type 0
RunCount = (pages : List ℕ) (budget : ℕ) (r : Registers) (m : List ℕ) → (ran pages budget r m).ran.count ≤ budget
