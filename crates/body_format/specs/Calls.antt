-- Lists of calls on a body, for any builder and any reader: additions to a started body, and
-- reading entry by entry.
-- To be believed. Assumes nothing.
use Rattle.std.specs.Prelude.{◌≡◌, Bool, false, ◌||◌, List, [], ◌∷◌, ℕ, ◌+◌, ℤ, length, take, drop}
use Rattle.wal_types.specs.Terms.{offset}
use Rattle.body_format.specs.Results.CheckAnswer.{CheckAnswer}
use Rattle.body_format.specs.Results.EntryAnswer.{EntryAnswer}
use Rattle.body_format.specs.Results.EntryAnswer.{Found as EntryFound, End}
use Rattle.body_format.specs.Results.StringAnswer.{StringAnswer}
use Rattle.body_format.specs.Results.StringAnswer.{Found as StringFound}
use Rattle.body_format.specs.declared.BucketKind.{BucketKind}
use Rattle.body_format.specs.declared.Numbers.{Numbers}
use Rattle.body_format.specs.Results.HistogramAnswer.{HistogramAnswer}
use Rattle.body_format.specs.Results.HistogramAnswer as histogram
use Rattle.body_format.specs.Results.SpanAnswer.{SpanAnswer}
use Rattle.body_format.specs.Results.SpanAnswer as span
use Rattle.body_format.specs.Results.BucketAnswer.{BucketAnswer}
use Rattle.body_format.specs.Results.BucketAnswer as bucket
use Rattle.body_format.specs.Heads.{Head}
use Rattle.body_format.specs.Histograms.{Span, Lists, map_lists, LentSpans, spans_of, bad_spans}
use Rattle.body_format.specs.Entries.{Entry, series_entry, sample_entry, tombstone_entry, exemplar_entry, metadata_entry, histogram_entry}
use Rattle.body_format.specs.Reading.{view, histogram_view, check_body, read_entry, read_string, read_histogram, read_span, read_bucket}
use Rattle.body_format.specs.Building.{cut_strings, bad_list, Outcome, used, refused, start, start_bytes, add, add_bytes}

-- ---- building

-- what one addition is given. The strings are one slice of bytes and one of lengths; spans are one
-- slice of offsets and one of lengths, and buckets are 64 bits each.
pub data Addition : Type 0 where
  add_series : ℕ → List ℕ → List ℕ → Addition
  add_sample : ℕ → ℤ → ℕ → Addition
  add_tombstone : ℕ → ℤ → ℤ → Addition
  add_exemplar : ℕ → ℤ → ℕ → List ℕ → List ℕ → Addition
  add_metadata : ℕ → ℕ → List ℕ → List ℕ → Addition
  add_histogram : BucketKind → Head → Numbers → Lists LentSpans (List ℕ) → Addition

-- the four lists of a histogram
abbrev pub lent_lists : Lists LentSpans (List ℕ) → Lists (List Span) (List ℕ)
lent_lists l = map_lists spans_of (λ (b : List ℕ). b) l

-- the entry that it is to add
abbrev pub entry_for : Addition → Entry
entry_for (add_series id bytes lengths) = series_entry id (cut_strings bytes lengths)
entry_for (add_sample id time v) = sample_entry id time v
entry_for (add_tombstone id min max) = tombstone_entry id min max
entry_for (add_exemplar id time v bytes lengths) = exemplar_entry id time v (cut_strings bytes lengths)
entry_for (add_metadata id metric bytes lengths) = metadata_entry id metric (cut_strings bytes lengths)
entry_for (add_histogram k h n l) = histogram_entry k (record { head = h; numbers = n; lists = lent_lists l })

-- whether a list of it is a BadList
abbrev pub list_is_bad : Addition → Bool
list_is_bad (add_series id bytes lengths) = bad_list bytes lengths
list_is_bad (add_sample id time v) = false
list_is_bad (add_tombstone id min max) = false
list_is_bad (add_exemplar id time v bytes lengths) = bad_list bytes lengths
list_is_bad (add_metadata id metric bytes lengths) = bad_list bytes lengths
list_is_bad (add_histogram k h n l) = bad_spans l.spans.positive || bad_spans l.spans.negative

pub record BuildResult : Type 0 where
  pub outcome : Outcome
  pub buffer : List ℕ

-- a starter takes the caller's buffer and a tag; a builder takes the buffer, a state (tag and bytes
-- used) and an addition
abbrev pub Starter : Type 0
Starter = List ℕ → ℕ → BuildResult

abbrev pub Builder : Type 0
Builder = List ℕ → ℕ → ℕ → Addition → BuildResult

-- the format's own
abbrev pub starter : Starter
starter b t = record { outcome = start b t; buffer = start_bytes (start b t) b t }

abbrev pub builder : Builder
builder b t u a = record {
  outcome = add b t u (entry_for a) (list_is_bad a);
  buffer = add_bytes (add b t u (entry_for a) (list_is_bad a)) b u (entry_for a);
}

-- the bytes used after an addition; after a refusal the state stays as given
abbrev pub used_then : Outcome → ℕ → ℕ
used_then (used n) u = n
used_then (refused why) u = u

module _ (B : Builder) (t : ℕ) where
  -- the buffer after a list of additions to a body of tag t, each with the state last handed back,
  -- and the bytes then used
  unfoldable pub final_buffer : List ℕ → ℕ → List Addition → List ℕ
  final_buffer b u [] = b
  final_buffer b u (a ∷ rest) = final_buffer (B b t u a).buffer (used_then (B b t u a).outcome u) rest

  unfoldable pub final_used : List ℕ → ℕ → List Addition → ℕ
  final_used b u [] = u
  final_used b u (a ∷ rest) = final_used (B b t u a).buffer (used_then (B b t u a).outcome u) rest

-- an entry is added where the format does not refuse the addition
abbrev pub with_entry : Outcome → Entry → List Entry → List Entry
with_entry (used n) e es = e ∷ es
with_entry (refused why) e es = es

unfoldable pub added : Builder → ℕ → List ℕ → ℕ → List Addition → List Entry
added B t b u [] = []
added B t b u (a ∷ rest) =
    with_entry (add b t u (entry_for a) (list_is_bad a)) (entry_for a)
    (added B t (B b t u a).buffer (used_then (B b t u a).outcome u) rest)

-- ---- reading

abbrev pub Checker : Type 0
Checker = List ℕ → CheckAnswer

abbrev pub EntryReader : Type 0
EntryReader = List ℕ → ℕ → EntryAnswer

abbrev pub StringReader : Type 0
StringReader = List ℕ → ℕ → StringAnswer

abbrev pub HistogramReader : Type 0
HistogramReader = List ℕ → ℕ → HistogramAnswer

abbrev pub SpanReader : Type 0
SpanReader = List ℕ → ℕ → SpanAnswer

abbrev pub BucketReader : Type 0
BucketReader = List ℕ → ℕ → BucketAnswer

-- what the claims are about: starting a body, adding to it, checking it, and reading an entry, a
-- string, a histogram, a span and a bucket
pub record BodyCalls : Type 0 where
  pub start : Starter
  pub add : Builder
  pub check : Checker
  pub entry : EntryReader
  pub string : StringReader
  pub histogram : HistogramReader
  pub span : SpanReader
  pub bucket : BucketReader

-- the format's own
abbrev pub body_calls : BodyCalls
body_calls = record {
  start = starter;
  add = builder;
  check = check_body;
  entry = read_entry;
  string = read_string;
  histogram = read_histogram;
  span = read_span;
  bucket = read_bucket;
}

-- the strings ts are read one after the other from place p on
abbrev pub Strings : StringReader → List ℕ → ℕ → List (List ℕ) → Type 0
Strings S s p [] = Unit {0}
Strings S s p (t ∷ ts) =
    (from : ℕ) × (S s p ≡ StringFound (offset from) (length t)) × (take (length t) (drop from s) ≡ t)
    × Strings S s (from + length t) ts

abbrev pub strings_of : Entry → List (List ℕ)
strings_of (series_entry id ts) = ts
strings_of (sample_entry id time v) = []
strings_of (tombstone_entry id min max) = []
strings_of (exemplar_entry id time v ts) = ts
strings_of (metadata_entry id metric ts) = ts
strings_of (histogram_entry k h) = []

-- the elements of a list are read one after the other from place p on, each at the place after the
-- one before; `read` reads at a place, and `found` is its answer for an element and the place after
abbrev pub InTurn : {A R : Type 0} → (ℕ → R) → (A → ℕ → R) → ℕ → List A → Type 0
InTurn read found p [] = Unit {0}
InTurn read found p (a ∷ rest) = (q : ℕ) × (read p ≡ found a q) × InTurn read found q rest

-- the answers for a span and for a bucket
abbrev pub span_found : Span → ℕ → SpanAnswer
span_found a q = span.Found a.gap a.size (offset q)

abbrev pub bucket_found : ℕ → ℕ → BucketAnswer
bucket_found v q = bucket.Found v (offset q)

-- the four lists of a histogram are read from the places `first` on
pub record ListsRead (P : SpanReader) (U : BucketReader) (s : List ℕ) (first : Lists ℕ ℕ) (l : Lists (List Span) (List ℕ)) : Type 0 where
  pub positive-spans : InTurn (P s) span_found first.spans.positive l.spans.positive
  pub negative-spans : InTurn (P s) span_found first.spans.negative l.spans.negative
  pub positive-buckets : InTurn (U s) bucket_found first.buckets.positive l.buckets.positive
  pub negative-buckets : InTurn (U s) bucket_found first.buckets.negative l.buckets.negative

-- a histogram is read in full at place p too: its numbers, and list by list its elements
abbrev pub InFull : BodyCalls → List ℕ → ℕ → Entry → ℕ → Type 0
InFull C s p (series_entry id ts) q = Unit {0}
InFull C s p (sample_entry id time v) q = Unit {0}
InFull C s p (tombstone_entry id min max) q = Unit {0}
InFull C s p (exemplar_entry id time v ts) q = Unit {0}
InFull C s p (metadata_entry id metric ts) q = Unit {0}
InFull C s p (histogram_entry k h) q =
    (first : Lists ℕ ℕ) × (C.histogram s p ≡ histogram.Found (histogram_view k h first q))
    × ListsRead C.span C.bucket s first h.lists

-- reading an entry at each place in turn, from place p on, gives exactly these entries, and then
-- the plain end
pub data Walks (C : BodyCalls) (s : List ℕ) : ℕ → List Entry → Type 0 where
  next : {p q : ℕ} {e : Entry} {es : List Entry} (first : ℕ)
      → C.entry s p ≡ EntryFound (view e first q)
      → Strings C.string s first (strings_of e)
      → InFull C s p e q
      → Walks C s q es
      → Walks C s p (e ∷ es)
  done : {p : ℕ} → C.entry s p ≡ End → Walks C s p []
