-- `a400::calls::call` meets its contract: words that are a record are run, others refused. Assumes nothing.
use mathlib.Core.Path.{sym, ◌∙◌}
use Rattle.acts.proofs.Words.{record_length}
use Rattle.a400.proofs.Answering.{run_called, run_refused}
use Rattle.a400.proofs.calls.call.Goals as goal

pub write_record-requires : goal.write_record-requires
write_record-requires c = record_length _ _ (sym c.from_words.ensures ∙ c.in-Some.is)

pub returns : goal.returns
returns c = run_called c.args.words.now c.args.pages.now c.args.memory.now c.args.budget (sym c.from_words.ensures ∙ c.in-Some.is) c.run-ran.ensures c.write_record.ensures c.from.ensures

pub returns-in_default : goal.returns-in_default
returns-in_default c = run_refused c.args.words.now c.args.pages.now c.args.memory.now c.args.budget (sym c.from_words.ensures ∙ c.in_default.is)
