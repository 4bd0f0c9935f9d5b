-- The steps to come, from the register so far, give what all give.
use Rattle.std.proofs.Common.{◌≡◌, ◌-◌, length, drop}
use Rattle.crc32c_format.specs.TableSum.{steps, table_step1}
use Rattle.crc32c.proofs.table_singles.Given as goal

abbrev pub invariant-loop-i : goal.invariant-loop-i
invariant-loop-i l =
    steps 1 (table_step1 l.t) (length l.s - l.i) l.c (drop l.i l.s) ≡ steps 1 (table_step1 l.t) (length l.s - l.at) l.state (drop l.at l.s)
