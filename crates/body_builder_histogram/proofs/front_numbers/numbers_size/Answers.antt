-- `numbers_size` meets its contract: 17 bytes, and three fields.
use Rattle.std.proofs.Common.{rules, arith, ◌∙◌, to_z-of_z, SFits, w32, w64}
use borrow.Author.Rules.{sfits_of}
use Rattle.body_builder_histogram.proofs.Fields.{length-numbers}
use Rattle.body_builder_histogram.proofs.front_numbers.numbers_size.Goals as goal

pub returns : goal.returns
returns c =
    let a = c.args in
    let fits : SFits w32 c.args.numbers.schema = search rules in
    let x = to_z-of_z {w = w64} (sfits_of c.from.type_inv) ∙ c.from.ensures ∙ to_z-of_z {w = w32} {z = a.numbers.schema} fits in
    let v = rw x at c.varint_len-schema.ensures in
    let z = c.count_size-zeros.ensures in
    let n = c.count_size-count.ensures in
    (omega (arith, v.value, z.0, n.0, length-numbers a.kind a.numbers), omega (arith, v.lower_bound, z.1, n.1))
