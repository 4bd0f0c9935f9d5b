-- `bytes01` meets its contract: two bytes, each by its row.
use Rattle.std.proofs.Common.{◌/◌, ◌%◌}
use Rattle.crc32c_format.specs.Method.Steps.{left_halves}
use Rattle.crc32c.proofs.ByRows.{flipped}
use Rattle.crc32c.proofs.bytes01.Goals as goal

pub returns : goal.returns
returns c =
    let b = c in
    let x = b.args.x in
    left_halves 2 12 x (flipped 64 (x % 256) b.index.ensures c.row7.ensures)
    (flipped 56 (x / 256) c.index-2.ensures c.row6.ensures)
