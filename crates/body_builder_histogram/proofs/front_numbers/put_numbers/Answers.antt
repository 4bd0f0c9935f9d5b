-- `put_numbers` meets its contract: a byte, and five puts in a row.
use Rattle.std.proofs.Common.{rules, arith, ◌∙◌, ap, length, to_z-of_z, SFits, w32, w64}
use borrow.Author.Rules.{sfits_of}
use Rattle.std.proofs.Math.Seq.{length-sets}
use Rattle.body_format.specs.Histograms.{numbers_bytes}
use Rattle.body_builder_histogram.proofs.Fields.{hint-room, numbers-laid}
use Rattle.body_builder_histogram.proofs.front_numbers.put_numbers.Goals as goal

pub bounds-buffer-at : goal.bounds-buffer-at
bounds-buffer-at c = hint-room _ _ c.args.buffer.now _ c.requires

pub overflow_add-schema : goal.overflow_add-schema
overflow_add-schema c = omega (arith, hint-room _ _ c.args.buffer.now _ c.requires)

pub shape_of-buffer : goal.shape_of-buffer
shape_of-buffer c =
    let s = c in
    let fits : SFits w32 c.args.numbers.schema = search rules in
    let x = to_z-of_z {w = w64} (sfits_of c.from.type_inv) ∙ c.from.ensures ∙ to_z-of_z {w = w32} {z = c.args.numbers.schema} fits in
    let v = rw x at c.put_varint-threshold.ensures in
    let w = c.put_be8-zeros.ensures in
    let z = c.put_count-count.ensures in
    let n = c.put_count-sum.ensures in
    let t = c.put_be8.ensures in
    let both = numbers-laid _ _ _ _ s.requires _ _ _ _ _ _ _ _ _ _ v.value v.buf_after w.value w.buf_after z.value z.buffer_after n.value n.buffer_after t.value t.buf_after in
    ap length both.1 ∙ length-sets s.args.buffer.now s.args.at (numbers_bytes s.args.kind s.args.numbers)

-- all six fields
pub returns : goal.returns
returns c =
    let s = c in
    let fits : SFits w32 c.args.numbers.schema = search rules in
    let x = to_z-of_z {w = w64} (sfits_of c.from.type_inv) ∙ c.from.ensures ∙ to_z-of_z {w = w32} {z = c.args.numbers.schema} fits in
    let v = rw x at c.put_varint-threshold.ensures in
    let w = c.put_be8-zeros.ensures in
    let z = c.put_count-count.ensures in
    let n = c.put_count-sum.ensures in
    let t = c.put_be8.ensures in
    let both = numbers-laid _ _ _ _ s.requires _ _ _ _ _ _ _ _ _ _ v.value v.buf_after w.value w.buf_after z.value z.buffer_after n.value n.buffer_after t.value t.buf_after in
    record { value = both.0; buffer_after = both.1 }
