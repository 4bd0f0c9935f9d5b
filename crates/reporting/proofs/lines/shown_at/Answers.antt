-- `shown_at` meets its contract: a row is its five numbers.
use Rattle.std.proofs.Common.{arith}
use Rattle.report_format.proofs.Laws.Rows.{line_read}
use Rattle.reporting.proofs.lines.shown_at.Goals as goal

pub returns : goal.returns
returns c =
    let a = c.args in
    rw (line_read a.report.now a.row (omega arith))
