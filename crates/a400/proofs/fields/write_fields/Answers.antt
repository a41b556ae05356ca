-- `a400::fields::write_fields` meets its contract: the fields read again, or not. Assumes nothing.
use Rattle.std.proofs.Common.{◌∙◌, sym}
use Rattle.std.proofs.lemmas.Bool.Decides.{Decides-eqb}
use Rattle.std.proofs.lemmas.Slice.Eq.{slice_eq-Decides}
use Rattle.code.proofs.Truth.{never}
use Rattle.a400.proofs.Writes.{wrote, unwritten}
use Rattle.a400.proofs.fields.write_fields.Goals as goal

pub returns-then-eq : goal.returns-then-eq
returns-then-eq c =
    c.write_instruction.ensures
    ∙ wrote c.args.fields.now _ _ c.instruction_at-instruction.ensures c.fields_of-again.ensures
    ((slice_eq-Decides Decides-eqb _ _ _ c.eq.ensures).0 c.if-eq.true)

pub returns : goal.returns
returns c =
    unwritten c.args.fields.now _ _ c.instruction_at-instruction.ensures c.fields_of-again.ensures
    (λ e. never (sym ((slice_eq-Decides Decides-eqb _ _ _ c.eq.ensures).1 e) ∙ c.if-eq.false))
