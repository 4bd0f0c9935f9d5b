-- `row_entry_end` meets its contract: the row's end, or that of the labels after it.
use Rattle.std.proofs.Common.{sym, ◌∙◌}
use Rattle.wal_types.proofs.Passing.{passed_on}
use Rattle.body_rows.proofs.Ending.{sample-ends, exemplar_ends, entry_faults}
use Rattle.body_rows.proofs.row_entry_end.Goals as goal

pub returns-in_err-labels : goal.returns-in_err-labels
returns-in_err-labels c =
    passed_on c.from_residual.result _ c.from_residual.ensures.1
    ∙ entry_faults _ _ c.args.labelled (sym c.in_err-labels.was ∙ c.row_end.ensures)

pub returns-then-labelled : goal.returns-then-labelled
returns-then-labelled c =
    rw c.if-labelled.true (exemplar_ends _ _ (sym c.in_ok-labels.was ∙ c.row_end.ensures) c.list_end.ensures)

pub returns-else-labelled : goal.returns-else-labelled
returns-else-labelled c = rw c.if-labelled.false (sample-ends _ _ (sym c.in_ok-labels.was ∙ c.row_end.ensures))
