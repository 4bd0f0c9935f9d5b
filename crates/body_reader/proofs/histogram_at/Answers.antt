-- `histogram_at` meets its contract: the kind, and then the histogram.
use Rattle.std.proofs.Common.{◌∙◌}
use Rattle.wal_types.proofs.Passing.{passed_on}
use Rattle.body_format.specs.Results.HistogramAnswer.{Refused}
use Rattle.body_format.specs.Entries.{histograms}
use Rattle.body_format.specs.Reading.{entry_place, histogram_there, read_histogram}
use Rattle.body_reader.proofs.Types.{read_known, read-refused}
use Rattle.body_reader.proofs.histogram_at.Goals as goal

pub returns : goal.returns
unfolding read_histogram
returns c =
    let s = c.args.body.now in
    let p = c.args.place.0 in
    c.histogram_entry.ensures
    ∙ read_known Refused (λ k. histogram_there k s (entry_place (histograms k) s p)) s c.bucket_kind.ensures c.in_ok-kind.was

pub returns-in_err-kind : goal.returns-in_err-kind
unfolding read_histogram
returns-in_err-kind c =
    let s = c.args.body.now in
    let p = c.args.place.0 in
    passed_on c.from_residual.result _ c.from_residual.ensures.1
    ∙ read-refused Refused (λ k. histogram_there k s (entry_place (histograms k) s p)) s c.bucket_kind.ensures c.in_err-kind.was
