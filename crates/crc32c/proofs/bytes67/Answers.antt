-- `bytes67` meets its contract: two bytes, each by its row.
use Rattle.std.proofs.Common.{◌/◌, ◌%◌}
use Rattle.crc32c_format.specs.Method.Steps.{left_halves}
use Rattle.crc32c.proofs.ByRows.{flipped}
use Rattle.crc32c.proofs.bytes67.Goals as goal

pub returns : goal.returns
returns c =
    let b = c in
    let x = b.args.x in
    left_halves 2 0 x (flipped 16 (x % 256) b.index.ensures c.row1.ensures)
    (flipped 8 (x / 256) c.index-2.ensures c.row0.ensures)
