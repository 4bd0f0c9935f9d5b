-- What is claimed of building and reading bodies: demand 1 as far as it is about the caller's
-- bytes, and demand 2. The format's own calls keep both (Theorems).
-- To be believed. Assumes nothing.
use Rattle.std.specs.Prelude.{◌≡◌, List, [], ◌∷◌, ℕ, ◌^◌, ◌≤◌, ◌<◌, length, take, drop}
use Rattle.std.specs.Int.Signed.{mag}
use Rattle.wal_types.specs.declared.Refusal.{Refusal}
use Rattle.body_format.specs.Results.CheckAnswer.{Entries}
use Rattle.body_format.specs.declared.Numbers.{Numbers}
use Rattle.body_format.specs.declared.Element.{Element}
use Rattle.body_format.specs.declared.Element.TheVariants as element
use Rattle.body_format.specs.Fields.{got}
use Rattle.body_format.specs.Histograms.{Item, Sides}
use Rattle.body_format.specs.Entries.{BodyType, known, body_type_of, Entry, entries}
use Rattle.body_format.specs.Reading.{check_body, read_entry, read_string, read_histogram, read_span, read_bucket}
use Rattle.body_format.specs.Building.{used, refused, start}
use Rattle.body_format.specs.Calls.{Addition, add_series, add_sample, add_tombstone, add_exemplar, add_metadata, add_histogram, lent_lists, starter, builder, final_buffer, final_used, added, BodyCalls, Walks}

-- DEMAND 1, what it says of the caller's bytes
pub record Demand1 (C : BodyCalls) : Type 0 where
  -- a refusal changes no byte
  pub start-refused : (b : List ℕ) (t : ℕ) (why : Refusal) → (C.start b t).outcome ≡ refused why
      → (C.start b t).buffer ≡ b
  pub add-refused : (b : List ℕ) (t u : ℕ) (a : Addition) (why : Refusal) → (C.add b t u a).outcome ≡ refused why
      → (C.add b t u a).buffer ≡ b
  -- starting a body writes its tag, and nothing else
  pub start_byte : (b : List ℕ) (t n : ℕ) → (C.start b t).outcome ≡ used n → (C.start b t).buffer ≡ t ∷ drop 1 b
  -- an addition changes only the bytes from the old place to the new
  pub within : (b : List ℕ) (t u n : ℕ) (a : Addition)
      → (C.add b t u a).outcome ≡ used n
      → (u ≤ n) × (n ≤ length b) × (length (C.add b t u a).buffer ≡ length b)
      × (take u (C.add b t u a).buffer ≡ take u b) × (drop n (C.add b t u a).buffer ≡ drop n b)

-- the numbers of a histogram, as the calls' types say
abbrev pub NumbersFit : Numbers → Type 0
NumbersFit n =
    (mag n.schema < 2 ^ 31) × (n.threshold < 2 ^ 64) × (n.zeros < 2 ^ 64) × (n.count < 2 ^ 64) × (n.sum < 2 ^ 64)

-- and the elements of its lists
abbrev pub ItemFits : (x : Element) → Item x → Type 0
ItemFits element.Span a = (mag a.gap < 2 ^ 31) × (a.size < 2 ^ 32)
ItemFits (element.Bucket k) v = v < 2 ^ 64

abbrev pub ItemsFit : (x : Element) → List (Item x) → Type 0
ItemsFit x [] = Unit {0}
ItemsFit x (a ∷ l) = ItemFits x a × ItemsFit x l

abbrev pub SidesFit : (x : Element) → Sides (List (Item x)) → Type 0
SidesFit x l = ItemsFit x l.positive × ItemsFit x l.negative

-- the numbers of an addition have 64 bits, and a metric type is a byte, as the calls' types say;
-- `mag` of n and of −(n + 1) is n, so −2^63 is in range
abbrev pub InRange : Addition → Type 0
InRange (add_series id bytes lengths) = id < 2 ^ 64
InRange (add_sample id time v) = (id < 2 ^ 64) × (mag time < 2 ^ 63) × (v < 2 ^ 64)
InRange (add_tombstone id min max) = (id < 2 ^ 64) × (mag min < 2 ^ 63) × (mag max < 2 ^ 63)
InRange (add_exemplar id time v bytes lengths) = (id < 2 ^ 64) × (mag time < 2 ^ 63) × (v < 2 ^ 64)
InRange (add_metadata id metric bytes lengths) = (id < 2 ^ 64) × (metric < 256)
InRange (add_histogram k h n l) =
    (h.id < 2 ^ 64) × (mag h.time < 2 ^ 63) × NumbersFit n
    × SidesFit element.Span (lent_lists l).spans × SidesFit (element.Bucket k) l.buckets

abbrev pub AllInRange : List Addition → Type 0
AllInRange [] = Unit {0}
AllInRange (a ∷ rest) = InRange a × AllInRange rest

-- the bytes of the body that a list of additions makes in buffer b, from a start with tag t
abbrev pub body_made : BodyCalls → List ℕ → ℕ → List Addition → List ℕ
body_made C b t xs =
    take (final_used C.add t (C.start b t).buffer 1 xs) (final_buffer C.add t (C.start b t).buffer 1 xs)

-- DEMAND 2, for bodies
pub record Demand2 (C : BodyCalls) : Type 0 where
  -- starting and adding give what the format says, are refused exactly where it says, and leave the
  -- buffer as it says, byte for byte (FORMAT 10)
  pub starts : (b : List ℕ) (t : ℕ) → C.start b t ≡ starter b t
  pub adds : (b : List ℕ) (t u : ℕ) (a : Addition) → C.add b t u a ≡ builder b t u a
  -- the count is the length of the list that the definition reads, and every fault is the
  -- definition's first (FORMAT 11.2)
  pub counts : (s : List ℕ) → C.check s ≡ check_body s
  -- an entry and a string are read at a place as the definition says (FORMAT 11.3, 11.4)
  pub reads : (s : List ℕ) (p : ℕ) → C.entry s p ≡ read_entry s p
  pub strings : (s : List ℕ) (p : ℕ) → C.string s p ≡ read_string s p
  -- and so are a histogram, a span and a bucket (FORMAT 11.6, 11.7)
  pub histograms : (s : List ℕ) (p : ℕ) → C.histogram s p ≡ read_histogram s p
  pub spans : (s : List ℕ) (p : ℕ) → C.span s p ≡ read_span s p
  pub buckets : (s : List ℕ) (p : ℕ) → C.bucket s p ≡ read_bucket s p
  -- reading an entry at each place in turn walks exactly that list, and reading the elements of a
  -- histogram's lists in turn exactly those
  pub walks : (b : ℕ) (s : List ℕ) (k : BodyType) (es : List Entry) (p : ℕ)
      → body_type_of b ≡ known k
      → entries k (b ∷ s) ≡ got es p
      → Walks C (b ∷ s) 1 es
  -- every body that is built reads back as the entries put in, by the check and by a walk: for
  -- every list of additions to a started body, refused ones included, in any buffer
  pub back : (b : List ℕ) (t : ℕ) (xs : List Addition)
      → AllInRange xs
      → start b t ≡ used 1
      → (C.check (body_made C b t xs) ≡ Entries (length (added C.add t (C.start b t).buffer 1 xs)))
      × Walks C (body_made C b t xs) 1 (added C.add t (C.start b t).buffer 1 xs)
