-- `table_eights` meets its contract. The invariant: the steps to come, from the register so far,
-- give what all give.
use Rattle.std.proofs.Common.{◌-◌, ◌/◌, ◌≤◌, ◌≡◌, length, drop}
use Rattle.crc32c_format.specs.TableSum.{steps, table_step8}
use Rattle.crc32c.proofs.table_eights.Given as goal

abbrev pub invariant-loop-i : goal.invariant-loop-i
invariant-loop-i l =
    (l.i ≤ length l.s) × (steps 8 (table_step8 l.t) ((length l.s - l.i) / 8) l.c (drop l.i l.s) ≡ steps 8 (table_step8 l.t) (length l.s / 8) l.state l.s)

abbrev pub decreases-loop-i : goal.decreases-loop-i
decreases-loop-i l = length l.s - l.i
