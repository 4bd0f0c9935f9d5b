-- FORMAT 11: what checking a body, and reading an entry, a string, a histogram, a span and a bucket
-- at a place answer. Order of refusals (FORMAT 12.2): EmptyBody, UnknownType, WrongKind, BadPlace,
-- then the first fault from the left.
-- To be believed. Assumes nothing.
use Rattle.std.specs.Prelude.{Bool, cond, ◌||◌, ◌&&◌, List, [], ◌∷◌, ℕ, pos, length, ltb, leb, eqb}
use Rattle.wal_types.specs.declared.Refusal.{Refusal}
use Rattle.wal_types.specs.declared.Refusal.TheVariants.{BadPlace, UnknownType, EmptyBody, WrongKind}
use Rattle.wal_types.specs.Terms.{offset, series_id, timestamp}
use Rattle.body_format.specs.Results.CheckAnswer.{CheckAnswer}
use Rattle.body_format.specs.Results.CheckAnswer.{Entries, Refused as CheckRefused}
use Rattle.body_format.specs.Results.EntryPlace.{EntryPlace}
use Rattle.body_format.specs.Results.EntryPlace as place
use Rattle.body_format.specs.declared.EntryView.{EntryView}
use Rattle.body_format.specs.Results.EntryAnswer.{EntryAnswer}
use Rattle.body_format.specs.Results.EntryAnswer.{Found as EntryFound, End, Refused as EntryRefused}
use Rattle.body_format.specs.Results.StringAnswer.{StringAnswer}
use Rattle.body_format.specs.Results.StringAnswer.{Found as StringFound, Refused as StringRefused}
use Rattle.body_format.specs.declared.BucketKind.{BucketKind}
use Rattle.body_format.specs.declared.ListView.{ListView}
use Rattle.body_format.specs.declared.SidesView.{SidesView}
use Rattle.body_format.specs.declared.HistogramView.{HistogramView}
use Rattle.body_format.specs.Results.HistogramAnswer.{HistogramAnswer}
use Rattle.body_format.specs.Results.HistogramAnswer as histogram
use Rattle.body_format.specs.Results.SpanAnswer.{SpanAnswer}
use Rattle.body_format.specs.Results.SpanAnswer as span
use Rattle.body_format.specs.Results.BucketAnswer.{BucketAnswer}
use Rattle.body_format.specs.Results.BucketAnswer as bucket
use Rattle.body_format.specs.Fields.{Field, got, fault, StringField, string_at}
use Rattle.body_format.specs.Histograms.{Span, span_at, bucket_at, Listed, Sides, Lists, Histogram, histogram_at, bare, firsts}
use Rattle.body_format.specs.Entries.{BodyType, series, samples, tombstones, exemplars, metadata, histograms, type_byte, Known, known, unknown, body_type_of, has_rows, Entry, series_entry, sample_entry, tombstone_entry, exemplar_entry, metadata_entry, histogram_entry, Placed, entry_at, first_at, entries}

-- ---- checking

abbrev pub check_fields : Field (List Entry) → CheckAnswer
check_fields (got es p) = Entries (length es)
check_fields (fault why) = CheckRefused why

abbrev pub check_known : Known → List ℕ → CheckAnswer
check_known (known k) s = check_fields (entries k s)
check_known unknown s = CheckRefused UnknownType

-- the number of entries of the body s, or the refusal (FORMAT 11.2)
unfoldable pub check_body : List ℕ → CheckAnswer
check_body [] = CheckRefused EmptyBody
check_body (b ∷ s) = check_known (body_type_of b) (b ∷ s)

-- ---- the entry of a place

-- an entry there, or a plain end at the body's end
unfoldable pub place_or_end : List ℕ → ℕ → EntryPlace
place_or_end s p = cond (eqb p (length s)) place.End (place.At (offset p))

-- the first entry: place 1 means the place where the entries begin
abbrev pub first_place : List ℕ → Field ℕ → EntryPlace
first_place s (got p q) = place_or_end s p
first_place s (fault why) = place.Refused why

-- BadPlace (FORMAT 11.3): place 0, past the body, or 2 to 16 in a type with rows
unfoldable pub bad_place : BodyType → List ℕ → ℕ → Bool
bad_place k s p = eqb p 0 || (ltb (length s) p || (has_rows k && (leb 2 p && leb p 16)))

-- where the entry of place p is, in a body of type k
unfoldable pub entry_place : BodyType → List ℕ → ℕ → EntryPlace
entry_place k s p =
    cond (bad_place k s p) (place.Refused BadPlace)
    (cond (eqb p 1) (first_place s (first_at (has_rows k) s)) (place_or_end s p))

-- ---- an entry at a place

-- how an entry is reported, with its strings from place `first` on and the place `next` after it
-- (FORMAT 11.3)
abbrev pub view : Entry → ℕ → ℕ → EntryView
view (series_entry id ts) first next = record {
  tag = type_byte series;
  id = series_id id;
  time = timestamp (pos 0);
  max = timestamp (pos 0);
  bits = 0;
  strings = length ts;
  first = offset first;
  next = offset next;
}
view (sample_entry id t v) first next = record {
  tag = type_byte samples;
  id = series_id id;
  time = timestamp t;
  max = timestamp (pos 0);
  bits = v;
  strings = 0;
  first = offset first;
  next = offset next;
}
view (tombstone_entry id lo hi) first next = record {
  tag = type_byte tombstones;
  id = series_id id;
  time = timestamp lo;
  max = timestamp hi;
  bits = 0;
  strings = 0;
  first = offset first;
  next = offset next;
}
view (exemplar_entry id t v ts) first next = record {
  tag = type_byte exemplars;
  id = series_id id;
  time = timestamp t;
  max = timestamp (pos 0);
  bits = v;
  strings = length ts;
  first = offset first;
  next = offset next;
}
view (metadata_entry id m ts) first next = record {
  tag = type_byte metadata;
  id = series_id id;
  time = timestamp (pos 0);
  max = timestamp (pos 0);
  bits = m;
  strings = length ts;
  first = offset first;
  next = offset next;
}
view (histogram_entry k h) first next = record {
  tag = type_byte (histograms k);
  id = series_id h.head.id;
  time = timestamp h.head.time;
  max = timestamp (pos 0);
  bits = h.numbers.sum;
  strings = 0;
  first = offset first;
  next = offset next;
}

abbrev pub answer_entry : Field Placed → EntryAnswer
answer_entry (got e next) = EntryFound (view e.entry e.first next)
answer_entry (fault why) = EntryRefused why

-- the entry where its place is
abbrev pub entry_there : BodyType → List ℕ → EntryPlace → EntryAnswer
entry_there k s (place.At p) = answer_entry (entry_at k s p.0)
entry_there k s place.End = End
entry_there k s (place.Refused why) = EntryRefused why

abbrev pub entry_known : Known → List ℕ → ℕ → EntryAnswer
entry_known (known k) s p = entry_there k s (entry_place k s p)
entry_known unknown s p = EntryRefused UnknownType

unfoldable pub read_entry : List ℕ → ℕ → EntryAnswer
read_entry [] p = EntryRefused EmptyBody
read_entry (b ∷ s) p = entry_known (body_type_of b) (b ∷ s) p

-- ---- a string at a place

abbrev pub answer_string : Field StringField → StringAnswer
answer_string (got t next) = StringFound (offset t.start) (length t.bytes)
answer_string (fault why) = StringRefused why

-- BadPlace (FORMAT 11.4): place 0 or past the body; the body's end is Short
abbrev pub string_known : Known → List ℕ → ℕ → StringAnswer
string_known (known k) s p = cond (eqb p 0 || ltb (length s) p) (StringRefused BadPlace) (answer_string (string_at s p))
string_known unknown s p = StringRefused UnknownType

unfoldable pub read_string : List ℕ → ℕ → StringAnswer
read_string [] p = StringRefused EmptyBody
read_string (b ∷ s) p = string_known (body_type_of b) (b ∷ s) p

-- ---- calls for histograms alone

-- the bucket kind decides; in a body of another type WrongKind (FORMAT 11.6)
abbrev pub histograms_only : {A : Type 0} → (Refusal → A) → (BucketKind → A) → Known → A
histograms_only refuse f (known series) = refuse WrongKind
histograms_only refuse f (known samples) = refuse WrongKind
histograms_only refuse f (known tombstones) = refuse WrongKind
histograms_only refuse f (known exemplars) = refuse WrongKind
histograms_only refuse f (known metadata) = refuse WrongKind
histograms_only refuse f (known (histograms k)) = f k
histograms_only refuse f unknown = refuse UnknownType

unfoldable pub by_bucket_kind : {A : Type 0} → (Refusal → A) → (BucketKind → A) → List ℕ → A
by_bucket_kind refuse f [] = refuse EmptyBody
by_bucket_kind refuse f (b ∷ s) = histograms_only refuse f (body_type_of b)

-- ---- a histogram at a place

-- a list by its count and its first place
abbrev pub list_view : {A : Type 0} → List A → ℕ → ListView
list_view l first = record { count = length l; first = offset first }

abbrev pub sides_view : {A : Type 0} → Sides (List A) → Sides ℕ → SidesView
sides_view l first = record {
  positive = list_view l.positive first.positive;
  negative = list_view l.negative first.negative;
}

-- how a histogram is reported, with its lists from the places `first` on and the place `next` after
-- it (FORMAT 11.6)
abbrev pub histogram_view : BucketKind → Histogram (List Span) (List ℕ) → Lists ℕ ℕ → ℕ → HistogramView
histogram_view k h first next = record {
  tag = type_byte (histograms k);
  id = series_id h.head.id;
  time = timestamp h.head.time;
  numbers = h.numbers;
  spans = sides_view h.lists.spans first.spans;
  buckets = sides_view h.lists.buckets first.buckets;
  next = offset next;
}

abbrev pub answer_histogram : BucketKind → Field (Histogram (Listed Span) (Listed ℕ)) → HistogramAnswer
answer_histogram k (got h next) = histogram.Found (histogram_view k (bare h) (firsts h) next)
answer_histogram k (fault why) = histogram.Refused why

-- the histogram where its place is
abbrev pub histogram_there : BucketKind → List ℕ → EntryPlace → HistogramAnswer
histogram_there k s (place.At p) = answer_histogram k (histogram_at k s p.0)
histogram_there k s place.End = histogram.End
histogram_there k s (place.Refused why) = histogram.Refused why

unfoldable pub read_histogram : List ℕ → ℕ → HistogramAnswer
read_histogram s p = by_bucket_kind histogram.Refused (λ k. histogram_there k s (entry_place (histograms k) s p)) s

-- ---- a span and a bucket at a place: place 0 or past the body is BadPlace, and the body's end is
-- Short (FORMAT 11.7)

abbrev pub answer_span : Field Span → SpanAnswer
answer_span (got a next) = span.Found a.gap a.size (offset next)
answer_span (fault why) = span.Refused why

unfoldable pub read_span : List ℕ → ℕ → SpanAnswer
read_span s p =
    by_bucket_kind span.Refused (λ k. cond (eqb p 0 || ltb (length s) p) (span.Refused BadPlace) (answer_span (span_at s p))) s

abbrev pub answer_bucket : Field ℕ → BucketAnswer
answer_bucket (got v next) = bucket.Found v (offset next)
answer_bucket (fault why) = bucket.Refused why

unfoldable pub read_bucket : List ℕ → ℕ → BucketAnswer
read_bucket s p =
    by_bucket_kind bucket.Refused (λ k. cond (eqb p 0 || ltb (length s) p) (bucket.Refused BadPlace) (answer_bucket (bucket_at k s p))) s
