-- `histogram_end` meets its contract: after the histogram, or its fault.
use Rattle.std.proofs.Common.{◌∙◌}
use Rattle.wal_types.proofs.Passing.{passed_on}
use Rattle.body_histogram.proofs.Chain.{found, stopped}
use Rattle.body_histogram.proofs.histogram_end.Goals as goal

pub returns : goal.returns
returns c = (found _ _ _ _ c.histogram_at.ensures c.in_ok-view.was).1

pub returns-in_err-view : goal.returns-in_err-view
returns-in_err-view c =
    passed_on c.from_residual.result _ c.from_residual.ensures.1
    ∙ (stopped _ _ _ _ c.histogram_at.ensures c.in_err-view.was).1
