-- `copy_item` meets its contract: the element is there, or not.
use Rattle.std.proofs.Common.{◌∙◌, sym, rules, SFits, w32, to_z-of_z}
use Rattle.body_format.specs.declared.Element.TheVariants as element
use Rattle.body_format.specs.Histograms.{span_at, bucket_at}
use Rattle.body_copy_histogram.proofs.Elements.{span-read, span-unread, bucket-read, bucket-unread, copied-got, copied_none, copied_as}
use Rattle.body_copy_histogram.proofs.items.copy_item.Goals as goal

pub returns-in_ok-offset-in-Span : goal.returns-in_ok-offset-in-Span
returns-in_ok-offset-in-Span c =
    let fits : SFits w32 c.in_ok-offset-in-Span.offset = search rules in
    let e = span-read (span_at c.args.from.now c.args.at) _ c.span_at.ensures (sym c.ok.ensures.value ∙ c.in_ok-offset-in-Span.was) in
    let w = rw (to_z-of_z {w = w32} fits) at c.put_span_at.ensures in
    copied_as _ _ _ _ _ _ c.in-Span.is (copied-got element.Span _ _ _ _ _ e _ _ w.value w.buffer_after)

pub returns-in_ok-bits-in-Bucket : goal.returns-in_ok-bits-in-Bucket
returns-in_ok-bits-in-Bucket c =
    let e = bucket-read (bucket_at c.in-Bucket.kind c.args.from.now c.args.at) _ c.bucket_at.ensures (sym c.ok-in-Bucket.ensures.value ∙ c.in_ok-bits-in-Bucket.was) in
    let w = c.put_bucket.ensures in
    copied_as _ _ _ _ _ _ c.in-Bucket.is (copied-got (element.Bucket c.in-Bucket.kind) _ _ _ _ _ e _ _ w.value w.buffer_after)

pub returns-in_err-offset-in-Span : goal.returns-in_err-offset-in-Span
returns-in_err-offset-in-Span c =
    let f = span-unread _ (rw c.span_at.ensures at (sym c.ok.ensures.value ∙ c.in_err-offset-in-Span.was)) in
    let n = copied_none element.Span _ c.args.buffer.now c.args.place f.1 in
    copied_as _ _ _ _ _ _ c.in-Span.is (c.from_residual.ensures ∙ sym n.0, n.1)

pub returns-in_err-bits-in-Bucket : goal.returns-in_err-bits-in-Bucket
returns-in_err-bits-in-Bucket c =
    let f = bucket-unread _ (rw c.bucket_at.ensures at (sym c.ok-in-Bucket.ensures.value ∙ c.in_err-bits-in-Bucket.was)) in
    let n = copied_none (element.Bucket c.in-Bucket.kind) _ c.args.buffer.now c.args.place f.1 in
    copied_as _ _ _ _ _ _ c.in-Bucket.is (c.from_residual-in_err-bits-in-Bucket.ensures ∙ sym n.0, n.1)
