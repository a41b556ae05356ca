-- `ways::store_double` meets its contract: by the tests of both places, and what the two stores ensure. Assumes nothing.
use Rattle.std.proofs.Common.{sym, ◌∙◌, ap}
use Rattle.std.specs.Prelude.{Ok}
use Rattle.maps.proofs.Laws.{place_below}
use Rattle.acts.proofs.Operands.{by_question}
use Rattle.effects.proofs.Doubles.{kept, ends_both, first_ends, second_ends}
use Rattle.effects.proofs.ways.store_double.Goals as goal

pub returns-in_err-first : goal.returns-in_err-first
returns-in_err-first c = first_ends _ _ _ _ _ _ c.past-next.ensures (sym c.place.ensures ∙ c.in_err-first.was) (by_question _ _ c.from_residual.ensures.1)

pub returns-in_err-second : goal.returns-in_err-second
returns-in_err-second c =
    second_ends _ _ _ _ _ _ c.past-next.ensures (sym c.place.ensures ∙ c.in_ok-first.was) (sym c.place-2.ensures ∙ c.in_err-second.was)
    (by_question _ _ c.from_residual-in_err-second.ensures.1)

pub store_at-s-requires : goal.store_at-s-requires
store_at-s-requires c = λ i e. place_below _ _ _ _ _ _ _ (sym c.place.ensures ∙ c.in_ok-first.was ∙ ap Ok e)

pub store_at-requires : goal.store_at-requires
store_at-requires c = λ i e. rw (c.store_at-s.ensures.1, kept) (place_below _ _ _ _ _ _ _ (sym c.place-2.ensures ∙ c.in_ok-second.was ∙ ap Ok e))

pub returns : goal.returns
returns c =
    ends_both _ _ _ _ _ _ c.past-next.ensures (sym c.place.ensures ∙ c.in_ok-first.was) (sym c.place-2.ensures ∙ c.in_ok-second.was)
    (ap Ok (rw (c.store_at.ensures.0, c.store_at-s.ensures.0, c.ahead.ensures))) (rw (c.store_at.ensures.1, c.store_at-s.ensures.1))
