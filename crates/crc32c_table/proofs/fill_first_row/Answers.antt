use Rattle.std.proofs.Common.{◌∙◌, arith}
use Rattle.crc32c_format.specs.Method.Tables.{filled_more, entry_first}
use Rattle.crc32c_table.proofs.fill_first_row.Goals as goal

pub loop-i-preserved : goal.loop-i-preserved
loop-i-preserved c =
    filled_more c.loop-i.table c.loop-i.i (omega arith) (c.byte_steps.ensures ∙ entry_first c.loop-i.i (omega arith)) c.loop-i.invariant
