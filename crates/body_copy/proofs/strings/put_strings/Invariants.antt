-- `put_strings` meets its contract. The loop's invariant, `Laying`: once the strings that are left
-- are written, the slice is as it is to be.
use Rattle.std.proofs.Common.{◌-◌}
use Rattle.body_copy.proofs.Copying.{Laying}
use Rattle.body_copy.proofs.strings.put_strings.Given as goal

abbrev pub invariant-loop : goal.invariant-loop
invariant-loop l = Laying l.from l.first l.count l.initial.buffer l.at l.buffer l.place l.next (l.count - l.counter)
