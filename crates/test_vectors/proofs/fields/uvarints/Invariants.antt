-- `uvarints`: the power of two stays within its range, so that no sum wraps.
use Rattle.std.proofs.Common.{◌^◌, ◌≤◌}
use Rattle.test_vectors.proofs.fields.uvarints.Given as goal

abbrev pub invariant-loop : goal.invariant-loop
invariant-loop g l = (1 ≤ l.power) × (l.power ≤ 2 ^ 63)
