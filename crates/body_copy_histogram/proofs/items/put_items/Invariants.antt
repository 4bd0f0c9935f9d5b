-- `put_items` meets its contract. The loop's invariant, `Laying`: once the elements that are left
-- are written, the slice is as it is to be.
use Rattle.std.proofs.Common.{◌-◌}
use Rattle.body_copy_histogram.proofs.Elements.{Laying}
use Rattle.body_copy_histogram.proofs.items.put_items.Given as goal

abbrev pub invariant-loop : goal.invariant-loop
invariant-loop l = Laying l.element l.from l.first l.count l.initial.buffer l.at l.buffer l.place l.from_place (l.count - l.counter)
