-- Each item is stored after the last, inside the segment.
use Rattle.std.proofs.Common.{◌≤◌, length}
use Rattle.test_damage.proofs.items.expand.Given as goal

abbrev pub invariant-loop-item : goal.invariant-loop-item
invariant-loop-item l = l.used ≤ length l.segment
