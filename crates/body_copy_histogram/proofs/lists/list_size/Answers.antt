-- `list_size` meets its contract: the count, and then the elements.
use Rattle.std.proofs.Common.{arith}
use Rattle.body_builder.specs.Laws.Additions.{exact}
use Rattle.body_copy_histogram.proofs.Parts.{list_parts, parts_sized}
use Rattle.body_copy_histogram.proofs.lists.list_size.Goals as goal

pub overflow_add-result : goal.overflow_add-result
overflow_add-result c = omega (arith, c.uvarint_len.ensures.lower_bound, c.items_size.ensures.1)

pub returns : goal.returns
returns c =
    let u = c.uvarint_len.ensures in
    let i = c.items_size.ensures in
    let a = c.args in
    (parts_sized (list_parts a.element a.from.now a.list) _ _ (exact u.value) i.0, omega (arith, u.lower_bound, i.1))
