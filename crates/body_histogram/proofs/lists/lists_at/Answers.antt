-- `lists_at` meets its contract: spans, and then buckets.
use Rattle.std.proofs.Common.{◌∙◌}
use Rattle.wal_types.proofs.Passing.{passed_on}
use Rattle.body_histogram.proofs.Walking.{sides-got, sides-fault, lists_1, lists_2, lists-all}
use Rattle.body_histogram.proofs.lists.lists_at.Goals as goal

pub returns : goal.returns
returns c =
    lists-all _ _ _ (sides-got _ _ c.sides_at.ensures c.in_ok-spans.was)
    (sides-got _ _ c.sides_at-2.ensures c.in_ok-buckets.was)

pub returns-in_err-buckets : goal.returns-in_err-buckets
returns-in_err-buckets c =
    passed_on c.from_residual-in_err-buckets.result _ c.from_residual-in_err-buckets.ensures.1
    ∙ lists_2 _ _ _ (sides-got _ _ c.sides_at.ensures c.in_ok-spans.was)
    (sides-fault _ _ c.sides_at-2.ensures c.in_err-buckets.was)

pub returns-in_err-spans : goal.returns-in_err-spans
returns-in_err-spans c =
    passed_on c.from_residual.result _ c.from_residual.ensures.1
    ∙ lists_1 _ _ _ (sides-fault _ _ c.sides_at.ensures c.in_err-spans.was)
