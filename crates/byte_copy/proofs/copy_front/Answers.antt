-- `copy_front` meets its contract: it stores all that the last chunk does not.
use Rattle.std.proofs.Common.{◌+◌, ◌-◌, ◌*◌, ◌/◌, ◌%◌, arith}
use Rattle.byte_copy.proofs.Stores.{put_last}
use Rattle.byte_copy.proofs.copy_front.Goals as goal

pub returns-then-count : goal.returns-then-count
returns-then-count c =
    let a = c.args in
    put_last a.source.now a.from a.to.now a.at a.count 16 16 (omega arith) (omega arith) (omega arith) (omega arith) c.copy_array.ensures

pub returns-then-count-2 : goal.returns-then-count-2
returns-then-count-2 c =
    let a = c.args in
    put_last a.source.now a.from a.to.now a.at a.count 16 32 (omega arith) (omega arith) (omega arith) (omega arith) c.copy_array-then-count-2.ensures

pub returns-else-count-2 : goal.returns-else-count-2
returns-else-count-2 c =
    let a = c.args in
    put_last a.source.now a.from a.to.now a.at a.count 16 (16 - a.at % 16 + (a.count - (16 - a.at % 16)) / 16 * 16) (omega arith) (omega arith) (omega arith) (omega arith) c.copy_aligned.ensures
