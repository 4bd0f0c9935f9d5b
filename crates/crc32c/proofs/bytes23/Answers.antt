-- `bytes23` meets its contract: two bytes, each by its row.
use Rattle.std.proofs.Common.{◌/◌, ◌%◌}
use Rattle.crc32c_format.specs.Method.Steps.{left_halves}
use Rattle.crc32c.proofs.ByRows.{flipped}
use Rattle.crc32c.proofs.bytes23.Goals as goal

pub returns : goal.returns
returns c =
    let b = c in
    let x = b.args.x in
    left_halves 2 8 x (flipped 48 (x % 256) b.index.ensures c.row5.ensures)
    (flipped 40 (x / 256) c.index-2.ensures c.row4.ensures)
