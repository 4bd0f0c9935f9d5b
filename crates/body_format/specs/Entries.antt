-- FORMAT 9: the seven types of a body, the layout of each one's entries, and the list of entries
-- that a body holds.
-- To be believed. Assumes nothing.
use Rattle.std.specs.Prelude.{Bool, true, false, cond, List, [], ◌∷◌, ℕ, zero, suc, ℤ, length, eqb}
use Rattle.body_format.specs.declared.BucketKind.{BucketKind}
use Rattle.body_format.specs.declared.BucketKind.TheVariants.{Whole, Float}
use Rattle.body_format.specs.Fields.{Field, got, and_then, byte_at, fixed_at, uvarint_at, varint_at, string_list_at}
use Rattle.body_format.specs.Heads.{head_at}
use Rattle.body_format.specs.Histograms.{Span, Histogram, histogram_at, bare}

-- ---- types

pub data BodyType : Type 0 where
  series samples tombstones exemplars metadata : BodyType
  histograms : BucketKind → BodyType

-- the tag of each: a body's first byte (FORMAT 9.1)
abbrev pub type_byte : BodyType → ℕ
type_byte series = 1
type_byte samples = 2
type_byte tombstones = 3
type_byte exemplars = 4
type_byte metadata = 6
type_byte (histograms Whole) = 7
type_byte (histograms Float) = 8

-- the type that a byte is the tag of, or none
pub data Known : Type 0 where
  known : BodyType → Known
  unknown : Known

unfoldable pub body_type_of : ℕ → Known
body_type_of b =
    cond (eqb b (type_byte series)) (known series)
    (cond (eqb b (type_byte samples)) (known samples)
    (cond (eqb b (type_byte tombstones)) (known tombstones)
    (cond (eqb b (type_byte exemplars)) (known exemplars)
    (cond (eqb b (type_byte metadata)) (known metadata)
    (cond (eqb b (type_byte (histograms Whole))) (known (histograms Whole))
    (cond (eqb b (type_byte (histograms Float))) (known (histograms Float)) unknown))))))

-- samples, exemplars and histograms have rows, after a first id and a first timestamp (FORMAT 9.3)
abbrev pub has_rows : BodyType → Bool
has_rows series = false
has_rows samples = true
has_rows tombstones = false
has_rows exemplars = true
has_rows metadata = false
has_rows (histograms k) = true

-- whether a tag is that of a type with rows
abbrev pub rows_known : Known → Bool
rows_known (known k) = has_rows k
rows_known unknown = false

-- ---- entries

-- ids and values are numbers below 2^64, times are signed, a metric type is a byte, and a string is
-- a list of bytes
pub data Entry : Type 0 where
  series_entry : ℕ → List (List ℕ) → Entry
  sample_entry : ℕ → ℤ → ℕ → Entry
  tombstone_entry : ℕ → ℤ → ℤ → Entry
  exemplar_entry : ℕ → ℤ → ℕ → List (List ℕ) → Entry
  metadata_entry : ℕ → ℕ → List (List ℕ) → Entry
  histogram_entry : BucketKind → Histogram (List Span) (List ℕ) → Entry

-- the type of the bodies that an entry belongs in
abbrev pub body_type_for : Entry → BodyType
body_type_for (series_entry id ts) = series
body_type_for (sample_entry id time bits) = samples
body_type_for (tombstone_entry id min max) = tombstones
body_type_for (exemplar_entry id time bits ts) = exemplars
body_type_for (metadata_entry id metric ts) = metadata
body_type_for (histogram_entry k h) = histograms k

-- an entry, and the place where its strings begin; where it has none, that is the place after it
pub record Placed : Type 0 where
  pub entry : Entry
  pub first : ℕ

-- a row's id, time and value
pub record Row : Type 0 where
  pub id : ℕ
  pub time : ℤ
  pub bits : ℕ

-- a row: its head (FORMAT 9.3), and the value (8)
unfoldable pub row_at : List ℕ → ℕ → Field Row
row_at s p =
    and_then (head_at s p) (λ h q.
    and_then (fixed_at s q) (λ v next.
    got (record { id = h.id; time = h.time; bits = v }) next))

-- 1: id (8), label count n (uvarint), 2n strings
unfoldable pub series_at : List ℕ → ℕ → Field Placed
series_at s p =
    and_then (fixed_at s p) (λ id q.
    and_then (string_list_at s q) (λ l next.
    got (record { entry = series_entry id l.strings; first = l.first }) next))

-- 2: a row
unfoldable pub sample_at : List ℕ → ℕ → Field Placed
sample_at s p =
    and_then (row_at s p) (λ r next. got (record { entry = sample_entry r.id r.time r.bits; first = next }) next)

-- 3: id (8), min and max time, each a signed varint
unfoldable pub tombstone_at : List ℕ → ℕ → Field Placed
tombstone_at s p =
    and_then (fixed_at s p) (λ id q.
    and_then (varint_at s q) (λ min r.
    and_then (varint_at s r) (λ max next.
    got (record { entry = tombstone_entry id min max; first = next }) next)))

-- 4: a row followed by n and 2n strings
unfoldable pub exemplar_at : List ℕ → ℕ → Field Placed
exemplar_at s p =
    and_then (row_at s p) (λ r q.
    and_then (string_list_at s q) (λ l next.
    got (record { entry = exemplar_entry r.id r.time r.bits l.strings; first = l.first }) next))

-- 6: id (uvarint), metric type (1), field count (uvarint), then name and text strings
unfoldable pub metadata_at : List ℕ → ℕ → Field Placed
metadata_at s p =
    and_then (uvarint_at s p) (λ id q.
    and_then (byte_at s q) (λ metric r.
    and_then (string_list_at s r) (λ l next.
    got (record { entry = metadata_entry id metric l.strings; first = l.first }) next)))

-- 7, 8: a histogram
unfoldable pub histogram_entry_at : BucketKind → List ℕ → ℕ → Field Placed
histogram_entry_at k s p =
    and_then (histogram_at k s p) (λ h next. got (record { entry = histogram_entry k (bare h); first = next }) next)

abbrev pub entry_at : BodyType → List ℕ → ℕ → Field Placed
entry_at series s p = series_at s p
entry_at samples s p = sample_at s p
entry_at tombstones s p = tombstone_at s p
entry_at exemplars s p = exemplar_at s p
entry_at metadata s p = metadata_at s p
entry_at (histograms k) s p = histogram_entry_at k s p

-- ---- the list of entries

-- the entries from place p to the end of the body, at most n of them
unfoldable pub entries_from : ℕ → BodyType → List ℕ → ℕ → Field (List Entry)
entries_from zero k s p = got [] p
entries_from (suc n) k s p =
    cond (eqb p (length s)) (got [] p)
    (and_then (entry_at k s p) (λ e q. and_then (entries_from n k s q) (λ es r. got (e.entry ∷ es) r)))

-- where the entries of a body begin: at place 1, or in a body of rows that has any byte after its
-- tag, after the first id (8) and the first timestamp (8)
abbrev pub first_at : Bool → List ℕ → Field ℕ
first_at false s = got 1 1
first_at true s =
    cond (eqb (length s) 1) (got 1 1)
    (and_then (fixed_at s 1) (λ id q. and_then (fixed_at s q) (λ time r. got r r)))

-- the entries of a body of type k, or its first fault from the left (FORMAT 11.2). Every entry has
-- a byte, so there are no more of them than the body has bytes.
unfoldable pub entries : BodyType → List ℕ → Field (List Entry)
entries k s = and_then (first_at (has_rows k) s) (λ first p. entries_from (length s) k s first)
