-- `put_span` meets its contract: two puts in a row.
use Rattle.std.proofs.Common.{◌∙◌, to_z-of_z, w32, w64}
use borrow.Author.Rules.{sfits_of}
use Rattle.body_format.specs.Histograms.{span_bytes}
use Rattle.body_builder_histogram.proofs.Fields.{put_two}
use Rattle.body_builder_histogram.proofs.spans.put_span.Goals as goal

pub returns : goal.returns
unfolding span_bytes
returns c =
    let s = c in
    let x = to_z-of_z {w = w64} (sfits_of c.from.type_inv) ∙ c.from.ensures ∙ to_z-of_z {w = w32} s.ranges.offset in
    let v = rw x at c.put_varint-second.ensures in
    let w = rw c.from-2.ensures at c.put_uvarint.ensures in let both = put_two _ _ _ _ _ _ _ _ s.requires v.value v.buf_after w.value w.buf_after in record { value = both.0; buffer_after = both.1 }
