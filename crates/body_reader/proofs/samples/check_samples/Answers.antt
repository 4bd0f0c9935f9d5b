-- `check_samples` meets its contract: where the rows begin, and their number.
use Rattle.std.proofs.Common.{◌∙◌}
use Rattle.wal_types.proofs.Passing.{passed_on}
use Rattle.body_reader.proofs.Reading.{place_at, place-fault, samples-all, samples-fault, samples_inside}
use Rattle.body_reader.proofs.samples.check_samples.Goals as goal

pub count_entries-requires : goal.count_entries-requires
count_entries-requires c = samples_inside c.args.body.now (place_at _ _ c.rows_begin.ensures c.in_ok-first.was)

pub returns : goal.returns
returns c = c.count_entries.ensures ∙ samples-all _ (place_at _ _ c.rows_begin.ensures c.in_ok-first.was)

pub returns-in_err-first : goal.returns-in_err-first
returns-in_err-first c =
    passed_on c.from_residual.result _ c.from_residual.ensures.1
    ∙ samples-fault _ (place-fault _ _ c.rows_begin.ensures c.in_err-first.was)
