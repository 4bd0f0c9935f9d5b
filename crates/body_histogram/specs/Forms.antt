-- Forms that the private functions return: a histogram's fields, numbers and lists, and a histogram
-- as any entry is reported.
-- Assumes nothing.
use Rattle.std.specs.Prelude.{ℕ, ℤ, pos}
use Rattle.wal_types.specs.Terms.{timestamp}
use Rattle.body_format.specs.declared.BucketKind.{BucketKind}
use Rattle.body_format.specs.declared.Numbers.{Numbers}
use Rattle.body_format.specs.declared.SidesView.{SidesView}
use Rattle.body_format.specs.declared.HistogramView.{HistogramView}
use Rattle.body_format.specs.declared.EntryView.{EntryView}
use Rattle.body_format.specs.Results.EntryAnswer.{EntryAnswer}
use Rattle.body_format.specs.Results.EntryAnswer as entry
use Rattle.body_format.specs.Results.HistogramAnswer.{HistogramAnswer}
use Rattle.body_format.specs.Results.HistogramAnswer as histogram
use Rattle.body_format.specs.Fields.{Field, got, fault}
use Rattle.body_format.specs.Histograms.{Span, Listed, Sides, map_sides, Lists, Histogram, bare, firsts}
use Rattle.body_format.specs.Reading.{list_view, sides_view, histogram_view}
use Rattle.body_histogram.specs.Results.Int32Read.{Int32Read}
use Rattle.body_histogram.specs.Results.Int32Read as int
use Rattle.body_histogram.specs.Results.ListRead.{ListRead}
use Rattle.body_histogram.specs.Results.ListRead as list
use Rattle.body_histogram.specs.Results.SidesRead.{SidesRead}
use Rattle.body_histogram.specs.Results.SidesRead as sides
use Rattle.body_histogram.specs.Results.ListsRead.{ListsRead}
use Rattle.body_histogram.specs.Results.ListsRead as lists
use Rattle.body_histogram.specs.Results.NumbersRead.{NumbersRead}
use Rattle.body_histogram.specs.Results.NumbersRead as numbers
use Rattle.body_histogram.specs.Results.HistogramRead.{HistogramRead}
use Rattle.body_histogram.specs.Results.HistogramRead as whole

abbrev pub int32_read : Field ℤ → Int32Read
int32_read (got x next) = int.Got x next
int32_read (fault why) = int.Fault why

abbrev pub list_read : {A : Type 0} → Field (Listed A) → ListRead
list_read (got l next) = list.Got (list_view l.items l.first) next
list_read (fault why) = list.Fault why

-- both sides, by counts and first places
abbrev pub viewed : {A : Type 0} → Sides (Listed A) → SidesView
viewed {A} l = sides_view (map_sides (λ (a : Listed A). a.items) l) (map_sides (λ (a : Listed A). a.first) l)

abbrev pub sides_read : {A : Type 0} → Field (Sides (Listed A)) → SidesRead
sides_read (got l next) = sides.Got (viewed l) next
sides_read (fault why) = sides.Fault why

abbrev pub lists_read : Field (Lists (Listed Span) (Listed ℕ)) → ListsRead
lists_read (got l next) = lists.Got (viewed l.spans) (viewed l.buckets) next
lists_read (fault why) = lists.Fault why

abbrev pub numbers_read : Field Numbers → NumbersRead
numbers_read (got n next) = numbers.Got n next
numbers_read (fault why) = numbers.Fault why

abbrev pub histogram_read : BucketKind → Field (Histogram (Listed Span) (Listed ℕ)) → HistogramRead
histogram_read k (got h next) = whole.Got (histogram_view k (bare h) (firsts h) next)
histogram_read k (fault why) = whole.Fault why

-- a histogram as an entry: id, time and sum, and no strings
abbrev pub told : HistogramView → EntryView
told v = record {
  tag = v.tag;
  id = v.id;
  time = v.time;
  max = timestamp (pos 0);
  bits = v.numbers.sum;
  strings = 0;
  first = v.next;
  next = v.next;
}

abbrev pub as_entry : HistogramAnswer → EntryAnswer
as_entry (histogram.Found v) = entry.Found (told v)
as_entry histogram.End = entry.End
as_entry (histogram.Refused why) = entry.Refused why
