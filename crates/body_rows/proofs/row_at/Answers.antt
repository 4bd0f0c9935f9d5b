-- `row_at` meets its contract: ten bytes, or field by field.
use Rattle.std.proofs.Common.{◌≡◌, true, ◌+◌, ◌≤◌, length, sym, ◌∙◌, arith}
use Rattle.body_rows.specs.Forms.{is_short_row}
use Rattle.body_rows.specs.Short.{short_inside}
use Rattle.body_rows.proofs.ShortRow.{short-read}
use Rattle.body_rows.proofs.row_at.Goals as goal
use Rattle.body_rows.proofs.row_at.Goals.{Then-is_short_row}

is-short : (c : Then-is_short_row) → is_short_row c.args.body.now c.args.at ≡ true
is-short c = sym c.is_short_row.ensures ∙ c.if-is_short_row.true

inside : (c : Then-is_short_row) → c.args.at + 10 ≤ length c.args.body.now
inside c = short_inside _ _ (is-short c)

pub bounds-body-at : goal.bounds-body-at
bounds-body-at c = omega (arith, inside (goal.at.bounds-body-at c).Then-is_short_row)

pub overflow_add-time_zigzag : goal.overflow_add-time_zigzag
overflow_add-time_zigzag c = omega (arith, inside (goal.at.overflow_add-time_zigzag c).Then-is_short_row)

pub bounds-body-at-then-is_short_row : goal.bounds-body-at-then-is_short_row
bounds-body-at-then-is_short_row c = omega (arith, inside (goal.at.bounds-body-at-then-is_short_row c).Then-is_short_row)

pub overflow_add-at : goal.overflow_add-at
overflow_add-at c = omega (arith, inside (goal.at.overflow_add-at c).Then-is_short_row)

pub overflow_add-next : goal.overflow_add-next
overflow_add-next c = omega (arith, inside (goal.at.overflow_add-next c).Then-is_short_row)

pub returns-then-is_short_row : goal.returns-then-is_short_row
returns-then-is_short_row c =
    short-read _ _ (is-short (goal.at.returns-then-is_short_row c).Then-is_short_row) c.row_of-row.ensures c.get_be8-bits.ensures c.requires
