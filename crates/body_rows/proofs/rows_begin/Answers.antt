-- `rows_begin` meets its contract, length by length.
use Rattle.std.proofs.Common.{sym, ap}
use Rattle.body_format.proofs.Laws.Lists.{first_rows}
use Rattle.body_rows.specs.Rows.{place_read}
use Rattle.body_rows.proofs.Placing.{first_1, first_2}
use Rattle.body_rows.proofs.rows_begin.Goals as goal

pub returns-then-body-lt9 : goal.returns-then-body-lt9
returns-then-body-lt9 c =
    let s = c.args.body.now in
    sym (ap place_read (first_1 s c.if-body-eq1.false c.if-body-lt9.true))

pub returns-then-body-lt-ROWS : goal.returns-then-body-lt-ROWS
returns-then-body-lt-ROWS c =
    let s = c.args.body.now in
    sym (ap place_read (first_2 s c.if-body-eq1.false c.if-body-lt9.false c.if-body-lt-ROWS.true))

pub returns : goal.returns
returns c = sym (ap place_read (first_rows c.args.body.now c.if-body-lt-ROWS.false))
