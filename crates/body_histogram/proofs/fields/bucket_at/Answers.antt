-- `bucket_at` meets its contract: a count, read as the kind has it.
use Rattle.std.proofs.Common.{ℕ, sym, ap, ◌∙◌}
use Rattle.wal_types.specs.Terms.{offset}
use Rattle.wal_types.proofs.Passing.{passed_on}
use Rattle.body_format.specs.Results.BucketAnswer as bucket
use Rattle.body_fields.specs.Laws.{number-got, number-fault}
use Rattle.body_histogram.proofs.Decoding.{bucket_of, bucket_got, bucket_fault}
use Rattle.body_histogram.proofs.fields.bucket_at.Goals as goal

pub returns-in-Whole : goal.returns-in-Whole
returns-in-Whole c =
    ap (λ (n : ℕ). bucket.Found n (offset c.in_ok-value.next))
    (c.delta_of_zigzag.ensures ∙ ap (λ k. bucket_of k c.in_ok-value.value) (sym c.in-Whole.is))
    ∙ bucket_got _ _ _ (number-got _ _ c.count_at.ensures c.in_ok-value.was)

pub returns-in-Float : goal.returns-in-Float
returns-in-Float c =
    ap (λ k. bucket.Found (bucket_of k c.in_ok-value.value) (offset c.in_ok-value.next)) (sym c.in-Float.is)
    ∙ bucket_got _ _ _ (number-got _ _ c.count_at.ensures c.in_ok-value.was)

pub returns-in_err-value : goal.returns-in_err-value
returns-in_err-value c =
    passed_on c.from_residual.result _ c.from_residual.ensures.1
    ∙ bucket_fault _ _ _ (number-fault _ _ c.count_at.ensures c.in_err-value.was)
