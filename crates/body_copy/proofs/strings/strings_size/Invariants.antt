-- `strings_size` meets its contract. The loop's invariant, `Sizing`: the bytes so far and those of
-- the strings that are left make the whole.
use Rattle.std.proofs.Common.{◌-◌}
use Rattle.body_copy.proofs.Measuring.{Sizing}
use Rattle.body_copy.proofs.strings.strings_size.Given as goal

abbrev pub invariant-loop : goal.invariant-loop
invariant-loop l = Sizing l.from l.first l.count l.at l.total (l.count - l.counter)
