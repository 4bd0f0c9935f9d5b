-- `row_end` meets its contract: ten bytes, or field by field.
use Rattle.std.proofs.Common.{◌≡◌, true, arith, sym, ◌∙◌}
use Rattle.body_rows.specs.Forms.{is_short_row}
use Rattle.body_rows.specs.Short.{short_inside}
use Rattle.body_rows.proofs.ShortRow.{short-end}
use Rattle.body_rows.proofs.row_end.Goals as goal
use Rattle.body_rows.proofs.row_end.Goals.{Then-is_short_row}

is-short : (c : Then-is_short_row) →
    let a = c.args in
    is_short_row a.body.now a.at ≡ true
is-short c = sym c.is_short_row.ensures ∙ c.if-is_short_row.true

pub overflow_add-result : goal.overflow_add-result
overflow_add-result c = omega (arith, short_inside _ _ (is-short (goal.at.overflow_add-result c).Then-is_short_row))

pub returns-then-is_short_row : goal.returns-then-is_short_row
returns-then-is_short_row c = short-end _ _ (is-short (goal.at.returns-then-is_short_row c).Then-is_short_row)
