use Rattle.std.proofs.Common.{refl, arith}
use Rattle.crc32c_format.specs.Method.Tables.{filled_more, entry_next}
use Rattle.crc32c_table.proofs.fill_other_rows.Goals as goal

pub loop-i-preserved : goal.loop-i-preserved
loop-i-preserved c =
    let f = c.loop-i.invariant in
    filled_more c.loop-i.table c.loop-i.i (omega arith) (entry_next c.loop-i.table c.loop-i.i (omega arith) f refl) f
