-- `len` meets its contract, by the kind of list.
use Rattle.body_builder_histogram.proofs.Stepping.{spans-count, buckets-count}
use Rattle.body_builder_histogram.proofs.items.Items.len.Goals as goal

pub returns-in-Spans : goal.returns-in-Spans
returns-in-Spans c = spans-count _ _ _ c.in-Spans.is c.requires

pub returns-in-Buckets : goal.returns-in-Buckets
returns-in-Buckets c = buckets-count _ _ _ c.in-Buckets.is
