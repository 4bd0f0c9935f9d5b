-- `row_entry_at` meets its contract: a row, and the labels of an exemplar.
use Rattle.std.proofs.Common.{◌∙◌}
use Rattle.wal_types.proofs.Passing.{passed_on}
use Rattle.body_rows.proofs.Reading.{row-got, row-fault, row-entry_1, row-entry_2, row-entry_3}
use Rattle.body_rows.proofs.row_entry_at.Goals as goal

pub returns-in_err-id : goal.returns-in_err-id
returns-in_err-id c =
    passed_on c.from_residual.result _ c.from_residual.ensures.1
    ∙ row-entry_1 _ _ c.args.labelled (row-fault _ _ c.row_at.ensures c.in_err-id.was)

pub returns-then-labelled : goal.returns-then-labelled
returns-then-labelled c =
    c.exemplar_of.ensures
    ∙ row-entry_3 _ _ c.args.labelled c.if-labelled.true (row-got _ _ c.row_at.ensures c.in_ok-id.was)

pub returns : goal.returns
returns c = row-entry_2 _ _ c.args.labelled c.if-labelled.false (row-got _ _ c.row_at.ensures c.in_ok-id.was)
