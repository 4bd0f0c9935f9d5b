-- `histogram_at` meets its contract: head, numbers and lists.
use Rattle.std.proofs.Common.{◌∙◌}
use Rattle.wal_types.proofs.Passing.{passed_on}
use Rattle.body_histogram.proofs.Chain.{head-got, head-fault, numbers-got, numbers-fault, lists-got, lists-fault}
use Rattle.body_histogram.proofs.Chain.{histogram_1, histogram_2, histogram_3, histogram-all}
use Rattle.body_histogram.proofs.histogram_at.Goals as goal

pub returns : goal.returns
returns c =
    histogram-all _ _ _ c.tag_of.ensures
    (head-got _ _ c.head_at.ensures c.in_ok-id.was)
    (numbers-got _ _ c.numbers_at.ensures c.in_ok-numbers.was)
    (lists-got _ _ c.lists_at.ensures c.in_ok-spans.was)

pub returns-in_err-spans : goal.returns-in_err-spans
returns-in_err-spans c =
    passed_on c.from_residual-in_err-spans.result _ c.from_residual-in_err-spans.ensures.1
    ∙ histogram_3 _ _ _
    (head-got _ _ c.head_at.ensures c.in_ok-id.was)
    (numbers-got _ _ c.numbers_at.ensures c.in_ok-numbers.was)
    (lists-fault _ _ c.lists_at.ensures c.in_err-spans.was)

pub returns-in_err-numbers : goal.returns-in_err-numbers
returns-in_err-numbers c =
    passed_on c.from_residual-in_err-numbers.result _ c.from_residual-in_err-numbers.ensures.1
    ∙ histogram_2 _ _ _
    (head-got _ _ c.head_at.ensures c.in_ok-id.was)
    (numbers-fault _ _ c.numbers_at.ensures c.in_err-numbers.was)

pub returns-in_err-id : goal.returns-in_err-id
returns-in_err-id c =
    passed_on c.from_residual.result _ c.from_residual.ensures.1
    ∙ histogram_1 _ _ _ (head-fault _ _ c.head_at.ensures c.in_err-id.was)
