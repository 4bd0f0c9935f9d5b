-- The first i entries are right.
use Rattle.crc32c_format.specs.Method.Tables.{Filled}
use Rattle.crc32c_table.proofs.fill_other_rows.Given as goal

abbrev pub invariant-loop-i : goal.invariant-loop-i
invariant-loop-i l = Filled l.table l.i
