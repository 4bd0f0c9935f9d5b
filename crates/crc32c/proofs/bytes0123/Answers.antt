-- `bytes0123` meets its contract: four bytes, by halves.
use Rattle.crc32c_format.specs.Method.Steps.{left_halves}
use Rattle.crc32c.proofs.bytes0123.Goals as goal

pub returns : goal.returns
returns c = left_halves 4 8 c.args.x c.bytes01.ensures c.bytes23.ensures
