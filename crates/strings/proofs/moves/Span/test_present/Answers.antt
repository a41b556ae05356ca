-- `Span::test_present` meets its contract: presence is told by pages. Assumes nothing.
use Rattle.std.proofs.Common.{length, ◌∙◌, rules}
use Rattle.maps.specs.Pages.{presence}
use Rattle.strings.proofs.Stretches.{present_told, presents_first}
use Rattle.strings.proofs.moves.Span.test_present.Goals as goal

pub returns : goal.returns
returns c = λ k. presents_first _ _ _ _ _ _ k _ ∙ (rw (c.test_pages.ensures (λ x. presence c.args.pages.now c.args.r.wmap c.args.self.map x (length c.args.memory.now)) (λ x y l p. search rules) (present_told c.args.pages.now c.args.r.wmap c.args.self.map (length c.args.memory.now))))
