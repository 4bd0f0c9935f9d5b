-- `head_at` meets its contract, field by field.
use Rattle.std.proofs.Common.{ap, ◌∙◌}
use Rattle.wal_types.specs.Deltas.{plus}
use Rattle.wal_types.proofs.Passing.{passed_on}
use Rattle.body_fields.specs.Laws.{number-got, number-fault}
use Rattle.body_rows.proofs.Reading.{head_1, head_2, head-all}
use Rattle.body_rows.proofs.head_at.Goals as goal

pub returns-in_err-id_zigzag : goal.returns-in_err-id_zigzag
returns-in_err-id_zigzag c =
    passed_on c.from_residual.result _ c.from_residual.ensures.1
    ∙ head_1 _ _ (number-fault _ _ c.uvarint_at.ensures c.in_err-id_zigzag.was)

pub returns-in_err-time_zigzag : goal.returns-in_err-time_zigzag
returns-in_err-time_zigzag c =
    let r = c.from_residual-in_err-time_zigzag in
    passed_on r.result _ r.ensures.1
    ∙ head_2 _ _ (number-got _ _ c.uvarint_at.ensures c.in_ok-id_zigzag.was)
    (number-fault _ _ c.uvarint_at-2.ensures c.in_err-time_zigzag.was)

pub returns : goal.returns
returns c =
    let base = c.base_of-base in
    head-all _ _ _ _
    (number-got _ _ c.uvarint_at.ensures c.in_ok-id_zigzag.was)
    (number-got _ _ c.uvarint_at-2.ensures c.in_ok-time_zigzag.was)
    base.ensures
    (c.id_plus.ensures ∙ ap (plus base.result.id.0) c.delta_of_zigzag.ensures)
    c.row_time.ensures
