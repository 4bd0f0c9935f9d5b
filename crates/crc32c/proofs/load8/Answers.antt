-- `load8` meets its contract: eight bytes as a number, by halves.
use Rattle.std.proofs.Common.{◌∙◌, rules}
use Rattle.crc32c_format.specs.Method.Parts.{little_endian_halves}
use Rattle.crc32c.proofs.load8.Goals as goal

pub returns : goal.returns
returns c =
    little_endian_halves 4 c.args.s.now c.args.at
    (search rules) (search rules) (c.from.ensures ∙ c.load4.ensures) (c.from-2.ensures ∙ c.load4-2.ensures)
