-- `codes::find_word` meets its contract: the hinted row is asked, and the rows whose code is not past the word come first. Assumes nothing.
use Rattle.std.proofs.Common.{rules, tests, ◌∙◌, refl, sym, leb}
use Rattle.std.proofs.lemmas.List.Sorted.{IsPartitionPoint-from_clause, IsPartitionedBy-leb}
use Rattle.std.proofs.lemmas.Option.{slice_get_read}
use Rattle.code.specs.Codes.{rows}
use Rattle.code.proofs.Rising.{risen, asked, sought_none, sought_last}
use Rattle.code.proofs.codes.find_word.Goals as goal

pub returns : goal.returns
unfolding rows
returns c =
    let item = c.in-Some.ensures.lookup in
    asked c.args.word c.from-3.result _ (slice_get_read rows 61 c.from-3.result _ refl item.3.0 item.1) (sym c.covers.ensures ∙ c.if-covers.true)

pub returns-then-end-eq0 : goal.returns-then-end-eq0
unfolding rows
returns-then-end-eq0 c =
    sought_none c.args.word c.partition_point-end.result
    (IsPartitionPoint-from_clause (λ e. leb e.code c.args.word) rows c.partition_point-end.result c.partition_point-end.ensures.partitioned
    (IsPartitionedBy-leb (λ e. e.code) rows c.args.word risen) (λ a r f k. search (rules, tests)))
    c.partition_point-end.ensures.bound c.if-end-eq0.true

pub returns-2 : goal.returns-2
unfolding rows
returns-2 c =
    c.then_some.ensures
    ∙ rw c.covers-2.ensures
    (sought_last c.args.word c.partition_point-end.result
    (IsPartitionPoint-from_clause (λ e. leb e.code c.args.word) rows c.partition_point-end.result c.partition_point-end.ensures.partitioned
    (IsPartitionedBy-leb (λ e. e.code) rows c.args.word risen) (λ a r f k. search (rules, tests)))
    c.partition_point-end.ensures.bound _ c.if-end-eq0.false)
