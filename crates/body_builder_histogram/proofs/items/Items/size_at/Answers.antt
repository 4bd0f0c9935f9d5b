-- `size_at` meets its contract, by the kind of list.
use Rattle.std.proofs.Common.{◌∙◌, ap, length, arith, rules, SFits, w32, to_z-of_z}
use Rattle.body_builder_histogram.proofs.Stepping.{spans-good, spans-count, spans-bytes, buckets-count, buckets-bytes}
use Rattle.body_builder_histogram.proofs.items.Items.size_at.Goals as goal

pub span_at-offset-requires : goal.span_at-offset-requires
span_at-offset-requires c =
    let few = spans-count _ _ _ c.in-Spans.is c.requires.0 in
    (omega (arith, few, spans-good _ _ _ c.in-Spans.is c.requires.0), omega (arith, few))

pub bucket_at-requires : goal.bucket_at-requires
bucket_at-requires c = omega (arith, buckets-count _ _ _ c.in-Buckets.is)

pub returns-in-Spans : goal.returns-in-Spans
returns-in-Spans c =
    let w = c.span_at-offset in
    let fits : SFits w32 w.result.0 = search rules in
    let n = rw (to_z-of_z {w = w32} fits) at c.span_size.ensures in
    (n.0 ∙ ap length (spans-bytes _ _ _ c.in-Spans.is c.args.i _ _ w.ensures.0 w.ensures.1), n.1)

pub returns-in-Buckets : goal.returns-in-Buckets
returns-in-Buckets c =
    let n = rw c.bucket_at.ensures at c.bucket_size.ensures in
    (n.0 ∙ ap length (buckets-bytes _ _ _ c.in-Buckets.is c.args.i), omega (arith, n.1))
