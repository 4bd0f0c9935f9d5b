-- `span_at` meets its contract: its offset, and then its length.
use Rattle.std.proofs.Common.{ℤ, ap, ◌∙◌, w32, to_z-of_z}
use borrow.Author.Rules.{sfits_of}
use Rattle.wal_types.specs.Terms.{offset}
use Rattle.wal_types.proofs.Passing.{passed_on}
use Rattle.body_format.specs.Results.SpanAnswer as span
use Rattle.body_fields.specs.Laws.{number-got, number-fault}
use Rattle.body_histogram.proofs.Decoding.{int_got, int_fault, int32_fits, span_1, span_2, span-all}
use Rattle.body_histogram.proofs.fields.span_at.Goals as goal

pub returns : goal.returns
returns c =
    let o = int_got _ _ c.int32_at.ensures c.in_ok-offset.was in
    ap (λ (z : ℤ). span.Found z c.in_ok-length.length (offset c.in_ok-length.next)) (to_z-of_z {w = w32} (sfits_of (int32_fits _ _ o)))
    ∙ span-all _ _ o (number-got _ _ c.uint32_at.ensures c.in_ok-length.was)

pub returns-in_err-length : goal.returns-in_err-length
returns-in_err-length c =
    passed_on c.from_residual-in_err-length.result _ c.from_residual-in_err-length.ensures.1
    ∙ span_2 _ _ (int_got _ _ c.int32_at.ensures c.in_ok-offset.was)
    (number-fault _ _ c.uint32_at.ensures c.in_err-length.was)

pub returns-in_err-offset : goal.returns-in_err-offset
returns-in_err-offset c =
    passed_on c.from_residual.result _ c.from_residual.ensures.1
    ∙ span_1 _ _ (int_fault _ _ c.int32_at.ensures c.in_err-offset.was)
