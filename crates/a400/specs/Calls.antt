-- What each call on a register record replies, and what it leaves in the slices that it is lent.
--     Answered, Answers    a call that is lent one slice to be written; what it promises
--     fresh_call            a fresh record
--     Called, Calls        a call of the machine: its reply, and the record and memory after it; what it promises
--     step_call             one step
--     RunCalled, RunCalls, run_call    a run, with its count
-- What a step and a run do is the machine's. The record as words is in Record of `acts`.
-- Assumes nothing.
use Rattle.std.specs.Prelude.{ℕ, ◌≡◌, cond, List, [], ◌∷◌, eqb, length}
use Rattle.acts.specs.Replies.{number}
use Rattle.acts.specs.Record.{record_words, fresh}
use Rattle.acts.specs.Acts.{answer, left}
use Rattle.machine.specs.Step.{stepped, ran, Leaves}
use Rattle.acts.specs.declared.record.Registers.{Registers}
use Rattle.acts.specs.declared.replies.Reply.{Reply}
use Rattle.acts.specs.declared.replies.Stepped.{Stepped}
use Rattle.std.specs.Prelude.{Some, None}
use Rattle.acts.specs.Record.{words_of, registers_of}

pub record Answered : Type 0 where
  pub reply : ℕ
  pub words : List ℕ

abbrev pub answered : ℕ → List ℕ → Answered
answered n w = record { reply = n; words = w }

pub record Answers (a : Answered) (n : ℕ) (w : List ℕ) : Type 0 where
  pub outcome : n ≡ a.reply
  pub words : w ≡ a.words

unfoldable pub fresh_call : List ℕ → Answered
fresh_call w = cond (eqb (length w) record_words) (answered (number Reply.Completed) (words_of fresh)) (answered (number Reply.BadCall) w)

pub record Called : Type 0 where
  pub reply : ℕ
  pub words : List ℕ
  pub memory : List ℕ

abbrev pub called : ℕ → List ℕ → List ℕ → Called
called n w m = record { reply = n; words = w; memory = m }

-- the page registers are left as given by every call
pub record Calls (c : Called) (pages : List ℕ) (n : ℕ) (w later m : List ℕ) : Type 0 where
  pub outcome : n ≡ c.reply
  pub words : w ≡ c.words
  pub registers : later ≡ pages
  pub memory : m ≡ c.memory

abbrev pub step_of : List ℕ → List ℕ → Registers → Called
step_of pages m r =
    let s : Stepped = answer r (stepped pages r m) in
    called (number s.reply) (words_of s.registers) (left m (stepped pages r m))

-- words that are no record are a bad call, and all is left as given
unfoldable pub step_call : List ℕ → List ℕ → List ℕ → Called
step_call w pages m = elim (registers_of w) [ Some r ↦ step_of pages m r | None ↦ called (number Reply.BadCall) w m ]

pub record RunCalled : Type 0 where
  pub call : Called
  pub count : List ℕ

abbrev pub run_called : Called → List ℕ → RunCalled
run_called c k = record { call = c; count = k }

pub record RunCalls (c : RunCalled) (pages : List ℕ) (n : ℕ) (w later m k : List ℕ) : Type 0 where
  pub calls : Calls c.call pages n w later m
  pub count : k ≡ c.count

abbrev pub run_of : List ℕ → List ℕ → ℕ → Registers → RunCalled
run_of pages m budget r =
    let l : Leaves = ran pages budget r m in
    run_called (called (number l.ran.reply) (words_of l.ran.registers) l.memory) (l.ran.count ∷ [])

-- a count that is not one number is a bad call; so are words that are no record, and the count is then 0
unfoldable pub run_call : List ℕ → List ℕ → List ℕ → ℕ → List ℕ → RunCalled
run_call w pages m budget count =
    cond (eqb (length count) 1)
    (elim (registers_of w) [ Some r ↦ run_of pages m budget r | None ↦ run_called (called (number Reply.BadCall) w m) (0 ∷ []) ])
    (run_called (called (number Reply.BadCall) w m) count)
