-- `pairs_at` meets its contract. The loop's invariant: the strings so far and the pairs that are
-- left make the whole list.
use Rattle.std.proofs.Common.{◌-◌}
use Rattle.body_fields.proofs.Strings.{Pairs}
use Rattle.body_fields.proofs.pairs_at.Given as goal

abbrev pub invariant-loop : goal.invariant-loop
invariant-loop l = Pairs l.body l.first l.pairs l.at l.count (l.pairs - l.counter)
