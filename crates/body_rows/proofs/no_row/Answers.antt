-- `no_row` meets its contract, length by length.
use Rattle.std.proofs.Common.{arith}
use Rattle.body_format.proofs.Laws.Places.{bad-past, entry-there}
use Rattle.body_rows.specs.Rows.{rows_type}
use Rattle.body_rows.specs.Laws.{rows-rows}
use Rattle.body_rows.proofs.Placing.{first_1, first_2, small_bad, small_end, small_fault}
use Rattle.body_rows.proofs.no_row.Goals as goal

pub returns-then-at-ne1 : goal.returns-then-at-ne1
returns-then-at-ne1 c labelled =
    entry-there _ _ _ (small_bad (rows_type labelled) _ _ (rows-rows labelled) (omega arith) c.if-at-ne1.true)

pub returns-then-body-eq0 : goal.returns-then-body-eq0
returns-then-body-eq0 c labelled = entry-there _ _ _ (bad-past (rows_type labelled) _ _ (omega arith))

pub returns-then-body-eq1 : goal.returns-then-body-eq1
returns-then-body-eq1 c labelled =
    entry-there _ _ _ (small_end (rows_type labelled) _ _ (rows-rows labelled) (omega arith) c.if-body-eq1.true)

pub returns-then-body-lt9 : goal.returns-then-body-lt9
returns-then-body-lt9 c labelled =
    entry-there _ _ _ (small_fault (rows_type labelled) _ _ (rows-rows labelled) (omega arith) (omega arith)
    (first_1 c.args.body.now c.if-body-eq1.false c.if-body-lt9.true))

pub returns : goal.returns
returns c labelled =
    entry-there _ _ _ (small_fault (rows_type labelled) _ _ (rows-rows labelled) (omega arith) (omega arith)
    (first_2 c.args.body.now c.if-body-eq1.false c.if-body-lt9.false (omega arith)))
