-- `span_size` meets its contract: two fields.
use Rattle.std.proofs.Common.{◌∙◌, to_z-of_z, w32, w64, arith}
use borrow.Author.Rules.{sfits_of}
use Rattle.body_builder_histogram.proofs.Fields.{length-span}
use Rattle.body_builder_histogram.proofs.spans.span_size.Goals as goal

pub returns : goal.returns
returns c =
    let a = c.args in
    let v = rw (to_z-of_z {w = w64} (sfits_of c.from.type_inv) ∙ c.from.ensures ∙ to_z-of_z {w = w32} c.ranges.offset) at c.varint_len-first.ensures in
    let u = rw c.from-2.ensures at c.uvarint_len-second.ensures in
    (omega (arith, v.value, u.value, length-span a.offset a.size), omega (arith, v.lower_bound, u.lower_bound))
