-- `span_at` meets its contract: the kind, the place, and then the span.
use Rattle.std.specs.Prelude.{◌≡◌, true, false, cond, ◌||◌, List, ℕ, length, ltb, eqb}
use Rattle.std.proofs.Common.{sym, ◌∙◌}
use Rattle.wal_types.specs.declared.Refusal.TheVariants.{BadPlace}
use Rattle.wal_types.proofs.Passing.{passed_on}
use Rattle.body_format.specs.declared.BucketKind.{BucketKind}
use Rattle.body_format.specs.Results.SpanAnswer.{SpanAnswer}
use Rattle.body_format.specs.Results.SpanAnswer.{Refused}
use Rattle.body_format.specs.Histograms.{span_at}
use Rattle.body_format.specs.Reading.{answer_span, read_span}
use Rattle.body_reader.proofs.Types.{read_known, read-refused}
use Rattle.body_reader.proofs.span_at.Goals as goal

-- what is answered in a body of histograms
abbrev inside : List ℕ → ℕ → BucketKind → SpanAnswer
inside s p k = cond (eqb p 0 || ltb (length s) p) (Refused BadPlace) (answer_span (span_at s p))

-- a bad place, and any other
bad : (s : List ℕ) (p : ℕ) (k : BucketKind) → eqb p 0 || ltb (length s) p ≡ true → Refused BadPlace ≡ inside s p k
bad s p k h = rw h

good : (s : List ℕ) (p : ℕ) (k : BucketKind) → eqb p 0 || ltb (length s) p ≡ false → answer_span (span_at s p) ≡ inside s p k
good s p k h = rw h

pub returns-then-is_outside : goal.returns-then-is_outside
unfolding read_span
returns-then-is_outside c =
    let a = c.args in
    bad a.body.now a.place.0 c.in_ok-bucket_kind.field-0 (sym c.is_outside.ensures ∙ c.if-is_outside.true)
    ∙ read_known Refused (inside a.body.now a.place.0) a.body.now c.bucket_kind.ensures c.in_ok-bucket_kind.was

pub returns : goal.returns
unfolding read_span
returns c =
    let a = c.args in
    c.span_at.ensures
    ∙ good a.body.now a.place.0 c.in_ok-bucket_kind.field-0 (sym c.is_outside.ensures ∙ c.if-is_outside.false)
    ∙ read_known Refused (inside a.body.now a.place.0) a.body.now c.bucket_kind.ensures c.in_ok-bucket_kind.was

pub returns-in_err-bucket_kind : goal.returns-in_err-bucket_kind
unfolding read_span
returns-in_err-bucket_kind c =
    let a = c.args in
    passed_on c.from_residual.result _ c.from_residual.ensures.1
    ∙ read-refused Refused (inside a.body.now a.place.0) a.body.now c.bucket_kind.ensures c.in_err-bucket_kind.was
