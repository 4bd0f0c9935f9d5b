-- `copy_aligned` meets its contract: a chunk, and then chunks of which the first may overlap it.
use Rattle.std.proofs.Common.{◌≡◌, ◌∙◌, ◌+◌, ◌-◌, ◌*◌, ◌/◌, ◌%◌, arith}
use Rattle.byte_copy.proofs.Stores.{put_last}
use Rattle.byte_copy.proofs.copy_aligned.Goals as goal

pub returns : goal.returns
returns c =
    let a = c.args in
    let skip = 16 - a.at % 16 in
    let m = (a.count - skip) / 16 * 16 in
    let e : skip + m - m ≡ skip = omega arith in
    c.copy_chunks.ensures
    ∙ rw e at (put_last a.source.now a.from a.to.now a.at (skip + m) m 16 (omega arith) (omega arith) (omega arith) (omega arith) c.copy_array.ensures)
