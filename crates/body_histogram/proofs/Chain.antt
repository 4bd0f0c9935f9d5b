-- A histogram's parts one after the other, in the code's forms: the first fault, or all of them.
use Rattle.std.specs.Prelude.{Option, Some, None, Ok, MatchOption, IsSomeAnd, ◌≡◌, refl, List, ℕ, ◌+◌, ◌<◌, ◌≤◌, ℤ, length, get_or}
use Rattle.std.proofs.Common.{sym, ap, ◌∙◌}
use Rattle.wal_types.specs.declared.Refusal.{Refusal}
use Rattle.wal_types.specs.declared.Refusal.TheVariants.{Short}
use Rattle.wal_types.specs.declared.SeriesId.{SeriesId}
use Rattle.wal_types.specs.declared.Timestamp.{Timestamp}
use Rattle.wal_types.specs.Terms.{offset, series_id, timestamp}
use Rattle.body_format.specs.declared.BucketKind.{BucketKind}
use Rattle.body_format.specs.declared.Numbers.{Numbers}
use Rattle.body_format.specs.declared.SidesView.{SidesView}
use Rattle.body_format.specs.declared.HistogramView.{HistogramView}
use Rattle.body_format.specs.Results.EntryPlace.{EntryPlace}
use Rattle.body_format.specs.Results.EntryPlace as place
use Rattle.body_format.specs.declared.EntryView.{EntryView}
use Rattle.body_format.specs.Results.EntryAnswer.{EntryAnswer}
use Rattle.body_format.specs.Results.HistogramAnswer as histogram
use Rattle.body_format.specs.Fields.{Field, got, fault, and_then, fixed_at}
use Rattle.body_format.specs.Heads.{Head, head_at}
use Rattle.body_format.specs.Histograms.{int32_at, count_at, Span, Listed, numbers_at, Lists, lists_at, Histogram, histogram_at, bare, firsts}
use Rattle.body_format.specs.Entries.{histograms, type_byte, histogram_entry, Placed, histogram_entry_at}
use Rattle.body_format.specs.Reading.{entry_place, answer_entry, entry_there, histogram_view, answer_histogram, histogram_there}
use Rattle.body_format.proofs.Laws.Fields.{byte_got, byte_short}
use Rattle.body_fields.specs.Results.Place.{At, Fault}
use Rattle.body_fields.specs.Ends.{end_of}
use Rattle.body_fields.specs.Laws.{never}
use Rattle.body_rows.specs.Results.HeadRead.{HeadRead}
use Rattle.body_rows.specs.Results.HeadRead as head
use Rattle.body_rows.specs.Rows.{head_read}
use Rattle.body_histogram.specs.Results.NumbersRead.{NumbersRead}
use Rattle.body_histogram.specs.Results.NumbersRead as numbers
use Rattle.body_histogram.specs.Results.HistogramRead.{HistogramRead}
use Rattle.body_histogram.specs.Results.HistogramRead as whole
use Rattle.body_histogram.specs.Results.ListsRead.{ListsRead}
use Rattle.body_histogram.specs.Results.ListsRead as lists
use Rattle.body_histogram.specs.Forms.{viewed, lists_read, numbers_read, histogram_read, told, as_entry}

-- ---- what an answer says of the reading

pub head-got : (f : Field Head) (r : HeadRead) {i : SeriesId} {t : Timestamp} {q : ℕ} → r ≡ head_read f → r ≡ head.Got i t q
    → f ≡ got (record { id = i.0; time = t.0 }) q
head-got (got h p) r {i} {t} {q} a b =
    let v : ◌≡◌ {A = SeriesId × Timestamp × ℕ} (series_id h.id, timestamp h.time, p) (i, t, q) = cc in
    ap (λ (w : SeriesId × Timestamp × ℕ). got (record { id = w.0.0; time = w.1.0 }) w.2) v
head-got (fault w) r a b = never cc

pub head-fault : (f : Field Head) (r : HeadRead) {why : Refusal} → r ≡ head_read f → r ≡ head.Fault why → f ≡ fault why
head-fault (got h p) r a b = never cc
head-fault (fault w) r a b = cc

pub numbers-got : (f : Field Numbers) (r : NumbersRead) {n : Numbers} {q : ℕ} → r ≡ numbers_read f → r ≡ numbers.Got n q → f ≡ got n q
numbers-got (got h p) r {n} {q} a b = let v : ◌≡◌ {A = Numbers × ℕ} (h, p) (n, q) = cc in ap (λ (w : Numbers × ℕ). got w.0 w.1) v
numbers-got (fault w) r a b = never cc

pub numbers-fault : (f : Field Numbers) (r : NumbersRead) {why : Refusal} → r ≡ numbers_read f → r ≡ numbers.Fault why → f ≡ fault why
numbers-fault (got h p) r a b = never cc
numbers-fault (fault w) r a b = cc

pub lists-got : (f : Field (Lists (Listed Span) (Listed ℕ))) (r : ListsRead) {v w : SidesView} {q : ℕ} → r ≡ lists_read f → r ≡ lists.Got v w q
    → (l : Lists (Listed Span) (Listed ℕ)) × (f ≡ got l q) × (viewed l.spans ≡ v) × (viewed l.buckets ≡ w)
lists-got (got l p) r {v} {w} {q} a b =
    let e : ◌≡◌ {A = SidesView × SidesView × ℕ} (viewed l.spans, viewed l.buckets, p) (v, w, q) = cc in (
      l,
      ap (λ (x : SidesView × SidesView × ℕ). got l x.2) e,
      ap (λ (x : SidesView × SidesView × ℕ). x.0) e,
      ap (λ (x : SidesView × SidesView × ℕ). x.1) e,
    )
lists-got (fault w) r a b = never cc

pub lists-fault : (f : Field (Lists (Listed Span) (Listed ℕ))) (r : ListsRead) {why : Refusal} → r ≡ lists_read f → r ≡ lists.Fault why → f ≡ fault why
lists-fault (got h p) r a b = never cc
lists-fault (fault w) r a b = cc

-- ---- the numbers

module _ (k : BucketKind) (s : List ℕ) (p : ℕ) where
  pub numbers_1 : length s ≤ p → numbers.Fault (Short (offset p)) ≡ numbers_read (numbers_at k s p)
  unfolding numbers_at
  numbers_1 h = rw (byte_short s p h)

  pub numbers_2 : {why : Refusal} → p < length s → int32_at s (p + 1) ≡ fault why → numbers.Fault why ≡ numbers_read (numbers_at k s p)
  unfolding numbers_at
  numbers_2 h a = rw (byte_got s p h, a)

  pub numbers_3 : {x : ℤ} {q : ℕ} {why : Refusal} → p < length s → int32_at s (p + 1) ≡ got x q → fixed_at s q ≡ fault why
      → numbers.Fault why ≡ numbers_read (numbers_at k s p)
  unfolding numbers_at
  numbers_3 h a b = rw (byte_got s p h, a, b)

  pub numbers_4 : {x : ℤ} {q v r : ℕ} {why : Refusal} → p < length s → int32_at s (p + 1) ≡ got x q → fixed_at s q ≡ got v r
      → count_at k s r ≡ fault why → numbers.Fault why ≡ numbers_read (numbers_at k s p)
  unfolding numbers_at
  numbers_4 h a b c = rw (byte_got s p h, a, b, c)

  pub numbers_5 : {x : ℤ} {q v r z t : ℕ} {why : Refusal} → p < length s → int32_at s (p + 1) ≡ got x q → fixed_at s q ≡ got v r
      → count_at k s r ≡ got z t → count_at k s t ≡ fault why → numbers.Fault why ≡ numbers_read (numbers_at k s p)
  unfolding numbers_at
  numbers_5 h a b c d = rw (byte_got s p h, a, b, c, d)

  pub numbers_6 : {x : ℤ} {q v r z t n u : ℕ} {why : Refusal} → p < length s → int32_at s (p + 1) ≡ got x q → fixed_at s q ≡ got v r
      → count_at k s r ≡ got z t → count_at k s t ≡ got n u → fixed_at s u ≡ fault why → numbers.Fault why ≡ numbers_read (numbers_at k s p)
  unfolding numbers_at
  numbers_6 h a b c d e = rw (byte_got s p h, a, b, c, d, e)

  pub numbers-all : {x : ℤ} {q v r z t n u m w : ℕ} → p < length s → int32_at s (p + 1) ≡ got x q → fixed_at s q ≡ got v r
      → count_at k s r ≡ got z t → count_at k s t ≡ got n u → fixed_at s u ≡ got m w
      → numbers.Got (record { hint = get_or s p 0; schema = x; threshold = v; zeros = z; count = n; sum = m }) w ≡ numbers_read (numbers_at k s p)
  unfolding numbers_at
  numbers-all h a b c d e = rw (byte_got s p h, a, b, c, d, e)

  -- ---- a histogram

  pub histogram_1 : {why : Refusal} → head_at s p ≡ fault why → whole.Fault why ≡ histogram_read k (histogram_at k s p)
  unfolding histogram_at
  histogram_1 h = rw h

  pub histogram_2 : {a : Head} {q : ℕ} {why : Refusal} → head_at s p ≡ got a q → numbers_at k s q ≡ fault why
      → whole.Fault why ≡ histogram_read k (histogram_at k s p)
  unfolding histogram_at
  histogram_2 h i = rw (h, i)

  pub histogram_3 : {a : Head} {q : ℕ} {n : Numbers} {r : ℕ} {why : Refusal} → head_at s p ≡ got a q → numbers_at k s q ≡ got n r
      → lists_at k s r ≡ fault why → whole.Fault why ≡ histogram_read k (histogram_at k s p)
  unfolding histogram_at
  histogram_3 h i j = rw (h, i, j)

  pub histogram-all : {tag : ℕ} {id : SeriesId} {time : Timestamp} {q : ℕ} {n : Numbers} {r : ℕ} {v w : SidesView} {t : ℕ}
      → tag ≡ type_byte (histograms k)
      → head_at s p ≡ got (record { id = id.0; time = time.0 }) q → numbers_at k s q ≡ got n r
      → (l : Lists (Listed Span) (Listed ℕ)) × (lists_at k s r ≡ got l t) × (viewed l.spans ≡ v) × (viewed l.buckets ≡ w)
      → whole.Got (record { tag = tag; id = id; time = time; numbers = n; spans = v; buckets = w; next = offset t })
      ≡ histogram_read k (histogram_at k s p)
  unfolding histogram_at
  histogram-all e h i (l, j, a, b) = rw (h, i, j, e, ← a, ← b)

  -- ---- where it ends, and what is answered

  -- the answer of a histogram that was found, or of its fault
  pub found : (r : HistogramRead) {v : HistogramView} → r ≡ histogram_read k (histogram_at k s p) → r ≡ whole.Got v
      → (histogram.Found v ≡ answer_histogram k (histogram_at k s p)) × (At v.next.0 ≡ end_of (histogram_entry_at k s p))
  unfolding histogram_entry_at
  found r {v} e g = go (histogram_at k s p) e
    where
      go : (f : Field (Histogram (Listed Span) (Listed ℕ))) → r ≡ histogram_read k f
          → (histogram.Found v ≡ answer_histogram k f)
          × (At v.next.0 ≡ end_of {A = Placed} (and_then f (λ h next. got (record { entry = histogram_entry k (bare h); first = next }) next)))
      go (got h q) i =
          let z : v ≡ histogram_view k (bare h) (firsts h) q = cc in
          (ap histogram.Found z, ap (λ (w : HistogramView). At w.next.0) z)
      go (fault w) i = never cc

  pub stopped : (r : HistogramRead) {why : Refusal} → r ≡ histogram_read k (histogram_at k s p) → r ≡ whole.Fault why
      → (histogram.Refused why ≡ answer_histogram k (histogram_at k s p)) × (Fault why ≡ end_of (histogram_entry_at k s p))
  unfolding histogram_entry_at
  stopped r {why} e g = go (histogram_at k s p) e
    where
      go : (f : Field (Histogram (Listed Span) (Listed ℕ))) → r ≡ histogram_read k f
          → (histogram.Refused why ≡ answer_histogram k f)
          × (Fault why ≡ end_of {A = Placed} (and_then f (λ h next. got (record { entry = histogram_entry k (bare h); first = next }) next)))
      go (got h q) i = never cc
      go (fault w) i = (cc, cc)

-- by where the entry of the place is
pub there : (k : BucketKind) (s : List ℕ) (p : ℕ) {r e : EntryPlace} → r ≡ entry_place (histograms k) s p → r ≡ e
    → histogram_there k s e ≡ histogram_there k s (entry_place (histograms k) s p)
there k s p h g = ap (histogram_there k s) (sym g ∙ h)

-- a histogram that was found is told as an entry
pub mapped : (o : Option HistogramView) (m : Option EntryView) → MatchOption o (m ≡ None) (λ v. IsSomeAnd m (λ e. e ≡ told v))
    → ◌≡◌ {A = EntryAnswer} (Ok m) (as_entry (Ok o))
mapped None m h = ap Ok h
mapped (Some v) (Some e) h = ap (λ x. Ok (Some x)) h
mapped (Some v) None h = absurd h

-- as an entry it is what reading an entry answers
pub as_entry_lem : (k : BucketKind) (s : List ℕ) (e : EntryPlace) → as_entry (histogram_there k s e) ≡ entry_there (histograms k) s e
unfolding histogram_entry_at
as_entry_lem k s (place.At p) = go (histogram_at k s p.0)
  where
    go : (f : Field (Histogram (Listed Span) (Listed ℕ)))
        → as_entry (answer_histogram k f) ≡ answer_entry (and_then f (λ h next. got (record { entry = histogram_entry k (bare h); first = next }) next))
    go (got h q) = refl
    go (fault why) = refl
as_entry_lem k s place.End = refl
as_entry_lem k s (place.Refused why) = refl
