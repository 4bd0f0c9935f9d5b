-- `long_row_at` meets its contract, field by field.
use Rattle.std.proofs.Common.{◌∙◌}
use Rattle.wal_types.proofs.Passing.{passed_on}
use Rattle.body_fields.specs.Laws.{number-got, number-fault}
use Rattle.body_rows.proofs.Reading.{row_1, row_2, row_3, row-all}
use Rattle.body_rows.proofs.long_row_at.Goals as goal

pub returns-in_err-id_zigzag : goal.returns-in_err-id_zigzag
returns-in_err-id_zigzag c =
    passed_on c.from_residual.result _ c.from_residual.ensures.1
    ∙ row_1 _ _ (number-fault _ _ c.uvarint_at.ensures c.in_err-id_zigzag.was)

pub returns-in_err-time_zigzag : goal.returns-in_err-time_zigzag
returns-in_err-time_zigzag c =
    let r = c.from_residual-in_err-time_zigzag in
    passed_on r.result _ r.ensures.1
    ∙ row_2 _ _ (number-got _ _ c.uvarint_at.ensures c.in_ok-id_zigzag.was)
    (number-fault _ _ c.uvarint_at-2.ensures c.in_err-time_zigzag.was)

pub returns-in_err-bits : goal.returns-in_err-bits
returns-in_err-bits c =
    let r = c.from_residual-in_err-bits in
    passed_on r.result _ r.ensures.1
    ∙ row_3 _ _ (number-got _ _ c.uvarint_at.ensures c.in_ok-id_zigzag.was)
    (number-got _ _ c.uvarint_at-2.ensures c.in_ok-time_zigzag.was)
    (number-fault _ _ c.fixed_at.ensures c.in_err-bits.was)

pub returns : goal.returns
returns c =
    row-all _ _ c.row_of-row.ensures
    (number-got _ _ c.uvarint_at.ensures c.in_ok-id_zigzag.was)
    (number-got _ _ c.uvarint_at-2.ensures c.in_ok-time_zigzag.was)
    (number-got _ _ c.fixed_at.ensures c.in_ok-bits.was)
    c.requires
