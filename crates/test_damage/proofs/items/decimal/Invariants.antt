-- The number never grows above the longest segment, so it does not wrap.
use Rattle.std.proofs.Common.{◌≤◌}
use Rattle.test_damage.proofs.items.decimal.Given as goal

abbrev pub invariant-loop-c : goal.invariant-loop-c
invariant-loop-c l = l.n ≤ 131072
