-- `lists_size` meets its contract: the spans, and the buckets.
use Rattle.std.proofs.Common.{arith}
use Rattle.body_copy_histogram.proofs.Parts.{lists_parts, parts_sized}
use Rattle.body_copy_histogram.proofs.lists.lists_size.Goals as goal

pub overflow_add-result : goal.overflow_add-result
overflow_add-result c = omega (arith, c.sides_size.ensures.1, c.sides_size-2.ensures.1)

pub returns : goal.returns
returns c =
    let u = c.sides_size.ensures in
    let i = c.sides_size-2.ensures in
    let a = c.args in
    (parts_sized (lists_parts a.kind a.from.now a.spans a.buckets) _ _ u.0 i.0, omega (arith, u.1, i.1))
