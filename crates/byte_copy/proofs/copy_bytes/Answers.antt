use Rattle.std.proofs.Common.{arith}
use Rattle.byte_copy.proofs.Stores.{put_byte}
use Rattle.byte_copy.proofs.copy_bytes.Goals as goal

pub loop-i-preserved : goal.loop-i-preserved
loop-i-preserved c =
    let a = c.args in
    put_byte a.source.now a.from a.to.now a.at c.loop-i.i (omega arith) c.loop-i.invariant
