-- `histogram_entry` meets its contract: where the entry of the place is, and then the histogram there.
use Rattle.std.proofs.Common.{refl, ap, ◌∙◌}
use Rattle.std.specs.Prelude.{Ok}
use Rattle.wal_types.proofs.Passing.{passed_on}
use Rattle.body_format.specs.Entries.{histograms}
use Rattle.body_histogram.proofs.Chain.{found, stopped, there}
use Rattle.body_histogram.proofs.histogram_entry.Goals as goal

pub returns : goal.returns
returns c =
    (found _ _ _ _ c.histogram_at.ensures c.in_ok-view.was).0
    ∙ there _ _ _ (c.row_entry_place.ensures (histograms c.args.kind) refl) (c.in_ok-place.was ∙ ap Ok c.in-Some.is)

pub returns-in_err-view : goal.returns-in_err-view
returns-in_err-view c =
    passed_on c.from_residual-in_err-view.result _ c.from_residual-in_err-view.ensures.1
    ∙ (stopped _ _ _ _ c.histogram_at.ensures c.in_err-view.was).0
    ∙ there _ _ _ (c.row_entry_place.ensures (histograms c.args.kind) refl) (c.in_ok-place.was ∙ ap Ok c.in-Some.is)

pub returns-in_err-place : goal.returns-in_err-place
returns-in_err-place c =
    passed_on c.from_residual.result _ c.from_residual.ensures.1
    ∙ there _ _ _ (c.row_entry_place.ensures (histograms c.args.kind) refl) c.in_err-place.was
