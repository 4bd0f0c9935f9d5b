-- `is_ascending` meets its contract: no id is below the one before it.
use Rattle.std.proofs.lemmas.List.Sorted.{non_decreasing_from_is_sorted}
use Rattle.id_list.proofs.Ordering.{by_sorted}
use Rattle.id_list.proofs.is_ascending.Goals as goal

pub returns : goal.returns
returns c =
    let ids = c.args.ids.now in
    by_sorted ids c.is_sorted.result (non_decreasing_from_is_sorted ids _ c.is_sorted.ensures.cases)
