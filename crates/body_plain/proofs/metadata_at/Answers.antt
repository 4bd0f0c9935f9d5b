-- `metadata_at` meets its contract, field by field.
use Rattle.std.proofs.Common.{◌∙◌}
use Rattle.wal_types.proofs.Passing.{passed_on}
use Rattle.body_fields.specs.Laws.{number-got, number-fault, list-got, list-fault}
use Rattle.body_plain.proofs.Reading.{metadata_1, metadata_2, metadata_3, metadata_all}
use Rattle.body_plain.proofs.metadata_at.Goals as goal

pub returns-in_err-id : goal.returns-in_err-id
returns-in_err-id c =
    passed_on c.from_residual.result _ c.from_residual.ensures.1
    ∙ metadata_1 _ _ (number-fault _ _ c.uvarint_at.ensures c.in_err-id.was)

pub returns-in_err-metric : goal.returns-in_err-metric
returns-in_err-metric c =
    let r = c.from_residual-in_err-metric in
    passed_on r.result _ r.ensures.1
    ∙ metadata_2 _ _ (number-got _ _ c.uvarint_at.ensures c.in_ok-id.was)
    (number-fault _ _ c.byte_at.ensures c.in_err-metric.was)

pub returns-in_err-count : goal.returns-in_err-count
returns-in_err-count c =
    let r = c.from_residual-in_err-count in
    passed_on r.result _ r.ensures.1
    ∙ metadata_3 _ _ (number-got _ _ c.uvarint_at.ensures c.in_ok-id.was)
    (number-got _ _ c.byte_at.ensures c.in_ok-metric.was)
    (list-fault _ _ c.string_list_at.ensures c.in_err-count.was)

pub returns : goal.returns
returns c =
    metadata_all _ _ (number-got _ _ c.uvarint_at.ensures c.in_ok-id.was)
    (number-got _ _ c.byte_at.ensures c.in_ok-metric.was)
    (list-got _ _ c.string_list_at.ensures c.in_ok-count.was)
