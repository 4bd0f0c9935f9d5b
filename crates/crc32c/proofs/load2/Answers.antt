-- `load2` meets its contract: two bytes as a number.
use Rattle.std.proofs.Common.{◌+◌, ◌∙◌, arith, rules}
use Rattle.crc32c_format.specs.Method.Parts.{little_endian-one, little_endian_halves}
use Rattle.crc32c.proofs.load2.Goals as goal

pub returns : goal.returns
returns c =
    let s = c.args.s.now in
    let at = c.args.at in
    little_endian_halves 1 s at (search rules) (omega (arith, c.type_inv.s at)) (c.from.ensures ∙ little_endian-one s at (search rules)) (c.from-2.ensures ∙ little_endian-one s (at + 1) (search rules))
