-- The answers of reading histograms, spans and buckets as C gets them: what the call returns, and
-- what it leaves in `out`.
-- To be believed. Assumes nothing.
use Rattle.std.specs.Prelude.{List, [], ◌∷◌, ℕ}
use Rattle.wal_types.specs.Refusals.{number_of, place_of}
use Rattle.wal_types.specs.Deltas.{to_bits}
use Rattle.body_format.specs.Results.HistogramAnswer.{HistogramAnswer}
use Rattle.body_format.specs.Results.HistogramAnswer as histogram
use Rattle.body_format.specs.Results.SpanAnswer.{SpanAnswer}
use Rattle.body_format.specs.Results.SpanAnswer as span
use Rattle.body_format.specs.Results.BucketAnswer.{BucketAnswer}
use Rattle.body_format.specs.Results.BucketAnswer as bucket

-- a histogram: tag, id, time, hint, schema, zero threshold, zero count, count, sum; then of positive
-- spans, negative spans, positive buckets and negative buckets the count and the first place; then
-- the place after. Signed numbers in two's complement. The plain end: zeros. A refusal: its place,
-- then zeros.
abbrev pub histogram_code : HistogramAnswer → ℕ
histogram_code (histogram.Found h) = 0
histogram_code histogram.End = 200
histogram_code (histogram.Refused why) = number_of why

abbrev pub histogram_out : HistogramAnswer → List ℕ
histogram_out (histogram.Found h) =
    h.tag ∷ h.id.0 ∷ to_bits h.time.0 ∷ h.numbers.hint ∷ to_bits h.numbers.schema ∷ h.numbers.threshold ∷ h.numbers.zeros
    ∷ h.numbers.count ∷ h.numbers.sum ∷ h.spans.positive.count ∷ h.spans.positive.first.0 ∷ h.spans.negative.count
    ∷ h.spans.negative.first.0 ∷ h.buckets.positive.count ∷ h.buckets.positive.first.0 ∷ h.buckets.negative.count
    ∷ h.buckets.negative.first.0 ∷ h.next.0 ∷ []
histogram_out histogram.End = 0 ∷ 0 ∷ 0 ∷ 0 ∷ 0 ∷ 0 ∷ 0 ∷ 0 ∷ 0 ∷ 0 ∷ 0 ∷ 0 ∷ 0 ∷ 0 ∷ 0 ∷ 0 ∷ 0 ∷ 0 ∷ []
histogram_out (histogram.Refused why) =
    (place_of why).0 ∷ 0 ∷ 0 ∷ 0 ∷ 0 ∷ 0 ∷ 0 ∷ 0 ∷ 0 ∷ 0 ∷ 0 ∷ 0 ∷ 0 ∷ 0 ∷ 0 ∷ 0 ∷ 0 ∷ 0 ∷ []

-- a span: offset in two's complement, length, place after
abbrev pub span_code : SpanAnswer → ℕ
span_code (span.Found gap size next) = 0
span_code (span.Refused why) = number_of why

abbrev pub span_out : SpanAnswer → List ℕ
span_out (span.Found gap size next) = to_bits gap ∷ size ∷ next.0 ∷ []
span_out (span.Refused why) = (place_of why).0 ∷ 0 ∷ 0 ∷ []

-- a bucket: its 64 bits, place after
abbrev pub bucket_code : BucketAnswer → ℕ
bucket_code (bucket.Found v next) = 0
bucket_code (bucket.Refused why) = number_of why

abbrev pub bucket_out : BucketAnswer → List ℕ
bucket_out (bucket.Found v next) = v ∷ next.0 ∷ []
bucket_out (bucket.Refused why) = (place_of why).0 ∷ 0 ∷ []
