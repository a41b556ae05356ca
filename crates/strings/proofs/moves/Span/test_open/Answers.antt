-- `Span::test_open` meets its contract: nothing is closed with protection off, and else protection is told by pages. Assumes nothing.
use Rattle.std.proofs.Common.{sym, ap, ◌∙◌, rules}
use Rattle.maps.specs.Pages.{is_open}
use Rattle.maps.proofs.Laws.{open_unprotected}
use Rattle.strings.proofs.Stretches.{opening, open_told, opens_first, passed}
use Rattle.strings.proofs.moves.Span.test_open.Goals as goal

pub returns-then-not-is_protecting : goal.returns-then-not-is_protecting
returns-then-not-is_protecting c = λ m k. opens_first _ _ _ _ _ _ _ k m ∙ (rw (passed (λ x. opening (is_open c.args.pages.now c.args.r.wmap c.args.self.map c.args.purpose x)) (λ x. ap opening (open_unprotected _ _ _ _ x (sym c.is_protecting.ensures ∙ c.if-not-is_protecting.true)))))

pub returns : goal.returns
returns c = λ m k. opens_first _ _ _ _ _ _ _ k m ∙ (rw (c.test_pages.ensures (λ x. opening (is_open c.args.pages.now c.args.r.wmap c.args.self.map c.args.purpose x)) (λ x y l p. search rules) (open_told c.args.pages.now c.args.r.wmap c.args.self.map c.args.purpose)))
