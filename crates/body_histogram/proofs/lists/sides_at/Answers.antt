-- `sides_at` meets its contract: a list for each side.
use Rattle.std.proofs.Common.{◌∙◌}
use Rattle.wal_types.proofs.Passing.{passed_on}
use Rattle.body_histogram.proofs.Walking.{list-got, list-fault, sides_1, sides_2, sides_all}
use Rattle.body_histogram.proofs.lists.sides_at.Goals as goal

pub returns : goal.returns
returns c =
    sides_all _ _ _ (list-got _ _ c.list_at.ensures c.in_ok-positive.was)
    (list-got _ _ c.list_at-2.ensures c.in_ok-negative.was)

pub returns-in_err-negative : goal.returns-in_err-negative
returns-in_err-negative c =
    passed_on c.from_residual-in_err-negative.result _ c.from_residual-in_err-negative.ensures.1
    ∙ sides_2 _ _ _ (list-got _ _ c.list_at.ensures c.in_ok-positive.was)
    (list-fault _ _ c.list_at-2.ensures c.in_err-negative.was)

pub returns-in_err-positive : goal.returns-in_err-positive
returns-in_err-positive c =
    passed_on c.from_residual.result _ c.from_residual.ensures.1
    ∙ sides_1 _ _ _ (list-fault _ _ c.list_at.ensures c.in_err-positive.was)
