-- A histogram as its calls are given it: numbers, and the four lists as six slices.
-- To be believed. Assumes nothing.
use Rattle.std.specs.Prelude.{List, ℕ, ℤ}
use Rattle.body_format.specs.declared.BucketKind.{BucketKind}
use Rattle.body_format.specs.declared.Numbers.{Numbers}
use Rattle.body_format.specs.Histograms.{Span, Sides, Lists, Histogram, LentSpans}
use Rattle.body_format.specs.Calls.{Addition, add_histogram, lent_lists}

abbrev pub sides : {A : Type 0} → A → A → Sides A
sides p n = record { positive = p; negative = n }

-- a span, and the spans of one side
abbrev pub span_of : ℤ → ℕ → Span
span_of g n = record { gap = g; size = n }

abbrev pub lent_spans : List ℤ → List ℕ → LentSpans
lent_spans gaps sizes = record { gaps = gaps; sizes = sizes }

-- offsets and lengths of the positive spans, of the negative ones, and the buckets of both sides
abbrev pub lent : List ℤ → List ℕ → List ℤ → List ℕ → List ℕ → List ℕ → Lists LentSpans (List ℕ)
lent po pl mo ml pb mb = record {
  spans = sides (lent_spans po pl) (lent_spans mo ml);
  buckets = sides pb mb;
}

-- the numbers, in the order of a body
abbrev pub numbers_of : ℕ → ℤ → ℕ → ℕ → ℕ → ℕ → Numbers
numbers_of hint schema threshold zeros count sum = record {
  hint = hint;
  schema = schema;
  threshold = threshold;
  zeros = zeros;
  count = count;
  sum = sum;
}

-- the histogram of an id, a time, numbers and lists, and its addition
abbrev pub histogram_of : ℕ → ℤ → Numbers → Lists LentSpans (List ℕ) → Histogram (List Span) (List ℕ)
histogram_of id time n l = record { head = record { id = id; time = time }; numbers = n; lists = lent_lists l }

abbrev pub addition : BucketKind → ℕ → ℤ → Numbers → Lists LentSpans (List ℕ) → Addition
addition k id time n l = add_histogram k (record { id = id; time = time }) n l
