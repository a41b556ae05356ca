-- `reads::get_address` meets its contract: by what its calls ensure. Assumes nothing.
use Rattle.std.proofs.Common.{◌∙◌}
use Rattle.std.proofs.lemmas.Result.{err_from_is_err_and}
use Rattle.acts.proofs.Operands.{reads, chases, had_value, had_trouble}
use Rattle.acts.proofs.reads.get_address.Goals as goal

pub returns-in_err-word : goal.returns-in_err-word
returns-in_err-word c =
    let p = err_from_is_err_and c.from_residual.result c.from_residual.ensures.1 in
    rw (p.1, p.2) (record { goes = λ k. had_trouble (reads (rw c.past.ensures at c.read.ensures)) c.in_err-word.was _ })

pub returns : goal.returns
returns c = record { goes = λ k. had_value (reads (rw c.past.ensures at c.read.ensures)) c.in_ok-word.was _ ∙ (chases c.follow.ensures).goes k }
