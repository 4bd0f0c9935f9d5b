-- `bytes4567` meets its contract: four bytes, by halves.
use Rattle.crc32c_format.specs.Method.Steps.{left_halves}
use Rattle.crc32c.proofs.bytes4567.Goals as goal

pub returns : goal.returns
returns c = left_halves 4 0 c.args.x c.bytes45.ensures c.bytes67.ensures
