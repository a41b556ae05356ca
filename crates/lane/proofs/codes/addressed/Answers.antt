-- `codes::addressed` meets its contract: the rule is the way that the word asks for, once its address word has led there. Assumes nothing.
use mathlib.Core.Path.{ap, ◌∙◌}
use Rattle.maps.specs.declared.pages.Map.TheVariants.{Execute}
use Rattle.acts.specs.Acts.{Act, exec}
use Rattle.effects.specs.declared.ways.Way.TheVariants.{Take, Put}
use Rattle.lane.proofs.Extended.{arrived}
use Rattle.lane.proofs.Ways.{finished_by, tried}
use Rattle.lane.proofs.codes.addressed.Goals as goal

pub returns-in_ok-v-in-Take : goal.returns-in_ok-v-in-Take
returns-in_ok-v-in-Take c =
    let a = c.args in let t = c.in-Take in let from = c.in_ok-from in let v = c.in_ok-v-in-Take in
    tried a.pages.now a.memory.now a.r _ _ _ c.finish.result
    (ap (λ (act : Act). exec a.pages.now act a.r a.memory.now) ((rw t.is at c.in_ok-taking.ensures) a.r)
    ∙ arrived _ _ _ (Take t.taking Execute t.addressing) from.from (rw c.past.ensures at c.read.ensures) from.ensures.value c.in_ok-to.ensures)
    (finished_by _ _ _ t.taking _ c.finish.result (rw c.address-at.ensures at c.read-in-Take.ensures) v.ensures.value c.finish.ensures)

pub returns-in-Put : goal.returns-in-Put
returns-in-Put c =
    let a = c.args in let p = c.in-Put in let from = c.in_ok-from in
    tried a.pages.now a.memory.now a.r _ _ _ c.put.result
    (ap (λ (act : Act). exec a.pages.now act a.r a.memory.now) ((rw p.is at c.in_ok-taking.ensures) a.r)
    ∙ arrived _ _ _ (Put p.source Execute p.addressing) from.from (rw c.past.ensures at c.read.ensures) from.ensures.value c.in_ok-to.ensures)
    (rw (c.address-at-in-Put.ensures, c.value.ensures, c.past-in-Put.ensures) at c.put.ensures)
