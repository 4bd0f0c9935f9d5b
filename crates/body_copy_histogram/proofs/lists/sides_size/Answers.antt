-- `sides_size` meets its contract: two lists.
use Rattle.std.proofs.Common.{arith}
use Rattle.body_copy_histogram.proofs.Parts.{sides_parts, parts_sized}
use Rattle.body_copy_histogram.proofs.lists.sides_size.Goals as goal

pub overflow_add-result : goal.overflow_add-result
overflow_add-result c = omega (arith, c.list_size.ensures.1, c.list_size-2.ensures.1)

pub returns : goal.returns
returns c =
    let u = c.list_size.ensures in
    let i = c.list_size-2.ensures in
    let a = c.args in
    (parts_sized (sides_parts a.element a.from.now a.sides) _ _ u.0 i.0, omega (arith, u.1, i.1))
