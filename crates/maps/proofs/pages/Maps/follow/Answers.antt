-- `Maps::follow` meets its contract: a word more of the chain, or its end. Assumes nothing.
use Rattle.std.proofs.Common.{arith, ◌≡◌, ◌∙◌, sym, ◌+◌, ◌-◌, true}
use Rattle.std.proofs.lemmas.Result.{err_from_is_err_and}
use Rattle.word.specs.Words.{bit}
use Rattle.maps.proofs.Accesses.{chased_out, chased_stop, chased_next}
use Rattle.maps.proofs.pages.Maps.follow.Goals as goal

pub returns-in_err-last : goal.returns-in_err-last
returns-in_err-last c =
    let p = err_from_is_err_and c.from_residual.result c.from_residual.ensures.1 in
    let asks : bit 15 c.loop.last ≡ true = sym c.is_indirect.ensures ∙ c.if-not-is_indirect.false in
    rw (p.1, p.2) (sym (chased_stop _ _ _ _ asks (omega arith) (sym c.read.ensures ∙ c.in_err-last.was)) ∙ c.loop.invariant)

pub loop-preserved : goal.loop-preserved
loop-preserved c =
    let asks : bit 15 c.loop.last ≡ true = sym c.is_indirect.ensures ∙ c.if-not-is_indirect.false in
    let n : 32768 - (c.loop.counter + 1) ≡ 32768 - c.loop.counter - 1 = omega arith in
    rw n (sym (chased_next _ _ _ _ asks (omega arith) (sym c.read.ensures ∙ c.in_ok-last.was)) ∙ c.loop.invariant)

pub returns-then-is_indirect : goal.returns-then-is_indirect
returns-then-is_indirect c =
    let n : 32768 - c.loop.counter ≡ 0 = omega arith in
    sym (chased_out _ _ (sym c.is_indirect-2.ensures ∙ c.if-is_indirect.true)) ∙ (rw n at c.loop.invariant)
