-- `histogram_as_entry` meets its contract: as an entry it is what reading an entry answers.
use Rattle.std.proofs.Common.{sym, ap, ◌∙◌}
use Rattle.wal_types.proofs.Passing.{passed_on}
use Rattle.body_format.specs.Entries.{histograms}
use Rattle.body_format.specs.Reading.{entry_place}
use Rattle.body_histogram.specs.Forms.{as_entry}
use Rattle.body_histogram.proofs.Chain.{mapped, as_entry_lem}
use Rattle.body_histogram.proofs.histogram_as_entry.Goals as goal

pub returns : goal.returns
returns c =
    mapped _ _ c.map.ensures.cases
    ∙ ap as_entry (sym c.in_ok-there.was ∙ c.histogram_entry.ensures)
    ∙ as_entry_lem c.args.kind c.args.body.now (entry_place (histograms c.args.kind) c.args.body.now c.args.at)

pub returns-in_err-there : goal.returns-in_err-there
returns-in_err-there c =
    passed_on c.from_residual.result _ c.from_residual.ensures.1
    ∙ ap as_entry (sym c.in_err-there.was ∙ c.histogram_entry.ensures)
    ∙ as_entry_lem c.args.kind c.args.body.now (entry_place (histograms c.args.kind) c.args.body.now c.args.at)
