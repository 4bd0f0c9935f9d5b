-- `list_at` meets its contract: its count, and then its elements.
use Rattle.std.proofs.Common.{sym, ◌∙◌}
use Rattle.wal_types.proofs.Passing.{passed_on}
use Rattle.body_fields.specs.Laws.{number-got, number-fault}
use Rattle.body_histogram.proofs.Walking.{list_1, list_2, list_all}
use Rattle.body_histogram.proofs.lists.list_at.Goals as goal

pub returns : goal.returns
returns c =
    list_all _ _ _ (number-got _ _ c.uvarint_at.ensures c.in_ok-count.was)
    (sym c.in_ok-next.was ∙ c.items_end.ensures)

pub returns-in_err-next : goal.returns-in_err-next
returns-in_err-next c =
    passed_on c.from_residual-in_err-next.result _ c.from_residual-in_err-next.ensures.1
    ∙ list_2 _ _ _ (number-got _ _ c.uvarint_at.ensures c.in_ok-count.was)
    (sym c.in_err-next.was ∙ c.items_end.ensures)

pub returns-in_err-count : goal.returns-in_err-count
returns-in_err-count c =
    passed_on c.from_residual.result _ c.from_residual.ensures.1
    ∙ list_1 _ _ _ (number-fault _ _ c.uvarint_at.ensures c.in_err-count.was)
