-- `perform::go_way` meets its contract: by where the address word comes from, and where it leads. Assumes nothing.
use Rattle.std.proofs.Common.{ℕ, ap}
use Rattle.steps.proofs.Arriving.{Starts, by_next, by_word, arrives}
use Rattle.acts.proofs.Operands.{reads, chases, had_stop, by_question, by_chain, by_itself}
use Rattle.steps.proofs.perform.go_way.Goals as goal
use Rattle.steps.proofs.perform.go_way.Goals.{in-Made, in-Next+in_ok-read-in-Next, then-word-lt32768, else-word-lt32768+in_ok-at}

pub returns-in_err-read-in-Next : goal.returns-in_err-read-in-Next
returns-in_err-read-in-Next c =
    rw c.in-Next.is
    (had_stop (reads (rw c.past.ensures at c.read.ensures)) c.in_err-read-in-Next.was (by_question _ _ c.from_residual.ensures.1) _)

pub returns-in_err-at : goal.returns-in_err-at
returns-in_err-at c =
    let a = c.args in
    let start : Starts a.pages.now a.from a.r a.memory.now c.match-from.word.0 c.match-from.word.1 =
    elim c.match-from.branch [
      | in-Made w ↦ by_word a.pages.now a.r a.memory.now w.in-Made.is (ap (λ (p : ℕ × ℕ). p.0) w.word-is) (ap (λ (p : ℕ × ℕ). p.1) w.word-is)
      | in-Next+in_ok-read-in-Next w ↦ by_next a.pages.now a.r a.memory.now w.in-Next.is (reads (rw w.past.ensures at w.read.ensures)) w.in_ok-read-in-Next.was
          (ap (λ (p : ℕ × ℕ). p.0) w.word-is) (ap (λ (p : ℕ × ℕ). p.1) w.word-is)
    ] in
    rw (start.goes _) (had_stop (chases c.follow.ensures) c.in_err-at.was (by_question _ _ c.from_residual-in_err-at.ensures.1) _)

pub returns : goal.returns
returns c =
    let a = c.args in
    let word = c.match-from.word.0 in
    let start : Starts a.pages.now a.from a.r a.memory.now c.match-from.word.0 c.match-from.word.1 =
    elim c.match-from.branch [
      | in-Made w ↦ by_word a.pages.now a.r a.memory.now w.in-Made.is (ap (λ (p : ℕ × ℕ). p.0) w.word-is) (ap (λ (p : ℕ × ℕ). p.1) w.word-is)
      | in-Next+in_ok-read-in-Next w ↦ by_next a.pages.now a.r a.memory.now w.in-Next.is (reads (rw w.past.ensures at w.read.ensures)) w.in_ok-read-in-Next.was
          (ap (λ (p : ℕ × ℕ). p.0) w.word-is) (ap (λ (p : ℕ × ℕ). p.1) w.word-is)
    ] in
    arrives a.way start
    (elim c.if-word-lt32768.branch [
      | then-word-lt32768 w ↦ by_itself a.pages.now a.r a.memory.now word w.if-word-lt32768.true w.at-is
      | else-word-lt32768+in_ok-at w ↦ by_chain a.pages.now a.r a.memory.now word (chases w.follow.ensures) w.in_ok-at.was w.at-is
    ])
    c.at_address.ensures
