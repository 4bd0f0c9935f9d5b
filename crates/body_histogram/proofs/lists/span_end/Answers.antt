-- `span_end` meets its contract: after the span, or its fault.
use Rattle.std.proofs.Common.{◌∙◌}
use Rattle.wal_types.proofs.Passing.{passed_on}
use Rattle.body_histogram.proofs.Walking.{span-ends, span_stops}
use Rattle.body_histogram.proofs.lists.span_end.Goals as goal

pub returns : goal.returns
returns c = span-ends _ _ c.span_at.ensures c.in_ok-next.was

pub returns-in_err-next : goal.returns-in_err-next
returns-in_err-next c =
    passed_on c.from_residual.result _ c.from_residual.ensures.1
    ∙ span_stops _ _ c.span_at.ensures c.in_err-next.was
