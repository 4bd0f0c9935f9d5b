-- `is_short_row` meets its contract, test by test.
use Rattle.std.proofs.Common.{arith}
use Rattle.body_rows.proofs.ShortRow.{too_few_lem, first-long, by-second}
use Rattle.body_rows.proofs.is_short_row.Goals as goal

pub returns-then-body-at : goal.returns-then-body-at
returns-then-body-at c = too_few_lem _ _ (omega arith)

pub returns-then-body-at-lt-SHORT_ROW : goal.returns-then-body-at-lt-SHORT_ROW
returns-then-body-at-lt-SHORT_ROW c = too_few_lem _ _ (omega arith)

pub returns-then-body-at-ge128 : goal.returns-then-body-at-ge128
returns-then-body-at-ge128 c = first-long _ _ (omega arith) c.if-body-at-ge128.true

pub returns : goal.returns
returns c = by-second _ _ (omega arith) (omega arith)
