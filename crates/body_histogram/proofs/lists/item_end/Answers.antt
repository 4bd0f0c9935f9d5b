-- `item_end` meets its contract: a span, or a bucket.
use Rattle.std.proofs.Common.{◌∙◌}
use Rattle.body_histogram.proofs.Walking.{item_end-span, item_end-bucket}
use Rattle.body_histogram.proofs.lists.item_end.Goals as goal

pub returns-in-Span : goal.returns-in-Span
returns-in-Span c = c.span_end.ensures ∙ item_end-span _ _ _ c.in-Span.is

pub returns-in-Bucket : goal.returns-in-Bucket
returns-in-Bucket c = c.bucket_end.ensures ∙ item_end-bucket _ _ _ c.in-Bucket.is
