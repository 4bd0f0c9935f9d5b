-- `load4` meets its contract: four bytes as a number, by halves.
use Rattle.std.proofs.Common.{◌∙◌, rules}
use Rattle.crc32c_format.specs.Method.Parts.{little_endian_halves}
use Rattle.crc32c.proofs.load4.Goals as goal

pub returns : goal.returns
returns c =
    little_endian_halves 2 c.args.s.now c.args.at
    (search rules) (search rules) (c.from.ensures ∙ c.load2.ensures) (c.from-2.ensures ∙ c.load2-2.ensures)
