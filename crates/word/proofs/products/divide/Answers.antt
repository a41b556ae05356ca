-- The division proper is reached with a divisor that is not 0, and with the two values. Assumes nothing.
use Rattle.std.proofs.Common.{◌≡◌, ap, ◌∙◌, w16, w32, to_z, of_z, ne_eqb}
use mir.ValLaws.{to_z-of_z}
use Rattle.word.specs.Words.{joined}
use Rattle.word.specs.Signed.{signed}
use Rattle.word.specs.Products.{divided}
use Rattle.word.proofs.products.divide.Goals as goal

pub returns : goal.returns
unfolding divided
returns c =
    let z : to_z w32 (of_z w32 c.double_value.result) ≡ signed w32 (joined c.args.b c.args.a) =
    to_z-of_z w32 _ (record { sfits = c.double_value.type_inv }) ∙ c.double_value.ensures ∙ ap (signed w32) c.join-d.ensures in
    let k : to_z w16 (of_z w16 c.word_value.result) ≡ signed w16 c.args.m =
    to_z-of_z w16 _ (record { sfits = c.word_value.type_inv }) ∙ c.word_value.ensures in
    c.division.ensures ∙ rw (z, k, ne_eqb _ _ c.if-m-eq0.false)
