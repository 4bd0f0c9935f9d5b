-- `bucket_end` meets its contract: where a count ends.
use Rattle.std.proofs.Common.{sym, ap, ◌∙◌}
use Rattle.wal_types.proofs.Passing.{passed_on}
use Rattle.body_fields.specs.Ends.{end_of}
use Rattle.body_fields.specs.Laws.{number-got, number-fault}
use Rattle.body_histogram.proofs.Decoding.{bucket_ends}
use Rattle.body_histogram.proofs.lists.bucket_end.Goals as goal

pub returns : goal.returns
returns c = sym (ap end_of (number-got _ _ c.count_at.ensures c.in_ok-next.was)) ∙ bucket_ends _ _ _

pub returns-in_err-next : goal.returns-in_err-next
returns-in_err-next c =
    passed_on c.from_residual.result _ c.from_residual.ensures.1
    ∙ sym (ap end_of (number-fault _ _ c.count_at.ensures c.in_err-next.was)) ∙ bucket_ends _ _ _
