-- `series_end` meets its contract: one field after the other.
use Rattle.body_plain.proofs.Ending.{series-ends}
use Rattle.body_plain.proofs.series_end.Goals as goal

pub returns : goal.returns
returns c = series-ends _ _ c.fixed_end-labels.ensures c.list_end.ensures
