-- `is_bad` meets its contract, by the kind of list.
use Rattle.std.proofs.Common.{sym, ap}
use Rattle.body_format.specs.Histograms.{bad_spans}
use Rattle.body_builder_histogram.specs.Items.{bad_of}
use Rattle.body_builder_histogram.proofs.items.Items.is_bad.Goals as goal

pub returns-in-Spans : goal.returns-in-Spans
unfolding bad_spans
returns-in-Spans c = sym (ap bad_of c.in-Spans.is)
