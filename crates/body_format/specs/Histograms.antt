-- FORMAT 9.4: the entries of types 7 and 8. They differ by the bucket kind; everything that they
-- share is said once, with the kind as an argument.
-- To be believed. Assumes nothing.
use Rattle.std.specs.Prelude.{Bool, cond, not, List, [], ◌∷◌, ◌++◌, ℕ, zero, suc, ◌^◌, ℤ, length, ltb, eqb}
use Rattle.std.specs.Int.Signed.{mag}
use Rattle.wal_types.specs.declared.Refusal.TheVariants.{BadRange}
use Rattle.wal_types.specs.Terms.{offset}
use Rattle.wal_types.specs.Deltas.{to_bits}
use Rattle.uvarint.specs.Uvarint.{uvarint}
use Rattle.varint.specs.Varint.{varint}
use Rattle.big_endian.specs.Fixed.{be8}
use Rattle.body_format.specs.declared.BucketKind.{BucketKind}
use Rattle.body_format.specs.declared.BucketKind.TheVariants.{Whole, Float}
use Rattle.body_format.specs.declared.Element.{Element}
use Rattle.body_format.specs.declared.Element.TheVariants as element
use Rattle.body_format.specs.declared.Numbers.{Numbers}
use Rattle.body_format.specs.Fields.{Field, got, fault, and_then, byte_at, fixed_at, uvarint_at, varint_at}
use Rattle.body_format.specs.Heads.{delta_bytes, delta_at, Head, head_at, head_bytes}

-- ---- numbers of 32 bits, signed and unsigned: else BadRange (FORMAT 8.5)

unfoldable pub int32_at : List ℕ → ℕ → Field ℤ
int32_at s p = and_then (varint_at s p) (λ x q. cond (ltb (mag x) (2 ^ 31)) (got x q) (fault (BadRange (offset p))))

unfoldable pub uint32_at : List ℕ → ℕ → Field ℕ
uint32_at s p = and_then (uvarint_at s p) (λ n q. cond (ltb n (2 ^ 32)) (got n q) (fault (BadRange (offset p))))

-- ---- what the bucket kind decides

-- zero count and count: a uvarint, or the 64 bits of a float
unfoldable pub count_at : BucketKind → List ℕ → ℕ → Field ℕ
count_at Whole s p = uvarint_at s p
count_at Float s p = fixed_at s p

unfoldable pub count_bytes : BucketKind → ℕ → List ℕ
count_bytes Whole n = uvarint n
count_bytes Float n = be8 n

-- a bucket is 64 bits: those of a signed number, written as a signed varint as a delta is, or those
-- of a float
unfoldable pub bucket_at : BucketKind → List ℕ → ℕ → Field ℕ
bucket_at Whole s p = delta_at s p
bucket_at Float s p = fixed_at s p

unfoldable pub bucket_bytes : BucketKind → ℕ → List ℕ
bucket_bytes Whole v = delta_bytes v
bucket_bytes Float v = be8 v

-- ---- a span

-- a span's offset and its length
pub record Span : Type 0 where
  pub gap : ℤ
  pub size : ℕ

unfoldable pub span_at : List ℕ → ℕ → Field Span
span_at s p = and_then (int32_at s p) (λ g q. and_then (uint32_at s q) (λ n r. got (record { gap = g; size = n }) r))

unfoldable pub span_bytes : Span → List ℕ
span_bytes a = varint a.gap ++ uvarint a.size

-- ---- a list of spans or buckets

-- an element
abbrev pub Item : Element → Type 0
Item element.Span = Span
Item (element.Bucket k) = ℕ

abbrev pub item_at : (x : Element) → List ℕ → ℕ → Field (Item x)
item_at element.Span s p = span_at s p
item_at (element.Bucket k) s p = bucket_at k s p

abbrev pub item_bytes : (x : Element) → Item x → List ℕ
item_bytes element.Span a = span_bytes a
item_bytes (element.Bucket k) v = bucket_bytes k v

-- n elements in a row
unfoldable pub items_at : (x : Element) → ℕ → List ℕ → ℕ → Field (List (Item x))
items_at x zero s p = got [] p
items_at x (suc n) s p = and_then (item_at x s p) (λ a q. and_then (items_at x n s q) (λ l r. got (a ∷ l) r))

unfoldable pub items_bytes : (x : Element) → List (Item x) → List ℕ
items_bytes x [] = []
items_bytes x (a ∷ l) = item_bytes x a ++ items_bytes x l

-- a list: where its first element is, and the elements
pub record Listed (A : Type 0) : Type 0 where
  pub first : ℕ
  pub items : List A

-- a count n (uvarint), and then n elements
unfoldable pub list_at : (x : Element) → List ℕ → ℕ → Field (Listed (Item x))
list_at x s p = and_then (uvarint_at s p) (λ n q. and_then (items_at x n s q) (λ l r. got (record { first = q; items = l }) r))

unfoldable pub list_bytes : (x : Element) → List (Item x) → List ℕ
list_bytes x l = uvarint (length l) ++ items_bytes x l

-- the two sides of a histogram
pub record Sides (A : Type 0) : Type 0 where
  pub positive : A
  pub negative : A

-- a list for the positive side, and one for the negative
unfoldable pub sides_at : (x : Element) → List ℕ → ℕ → Field (Sides (Listed (Item x)))
sides_at x s p =
    and_then (list_at x s p) (λ a q.
    and_then (list_at x s q) (λ b r.
    got (record { positive = a; negative = b }) r))

unfoldable pub sides_bytes : (x : Element) → Sides (List (Item x)) → List ℕ
sides_bytes x l = list_bytes x l.positive ++ list_bytes x l.negative

-- ---- an entry

-- hint (1), schema, zero threshold (8), zero count, count, sum (8)
unfoldable pub numbers_at : BucketKind → List ℕ → ℕ → Field Numbers
numbers_at k s p =
    and_then (byte_at s p) (λ hint q.
    and_then (int32_at s q) (λ schema r.
    and_then (fixed_at s r) (λ threshold t.
    and_then (count_at k s t) (λ zeros u.
    and_then (count_at k s u) (λ count v.
    and_then (fixed_at s v) (λ sum w.
    got (record { hint = hint; schema = schema; threshold = threshold; zeros = zeros; count = count; sum = sum }) w))))))

unfoldable pub numbers_bytes : BucketKind → Numbers → List ℕ
numbers_bytes k n =
    n.hint ∷ (varint n.schema ++ (be8 n.threshold ++ (count_bytes k n.zeros ++ (count_bytes k n.count ++ be8 n.sum))))

-- the four lists: S is what stands for a list of spans, B for a list of buckets
pub record Lists (S B : Type 0) : Type 0 where
  pub spans : Sides S
  pub buckets : Sides B

-- the spans of both sides, and then the buckets of both
unfoldable pub lists_at : BucketKind → List ℕ → ℕ → Field (Lists (Listed Span) (Listed ℕ))
lists_at k s p =
    and_then (sides_at element.Span s p) (λ a q.
    and_then (sides_at (element.Bucket k) s q) (λ b r.
    got (record { spans = a; buckets = b }) r))

unfoldable pub lists_bytes : BucketKind → Lists (List Span) (List ℕ) → List ℕ
lists_bytes k l = sides_bytes element.Span l.spans ++ sides_bytes (element.Bucket k) l.buckets

-- a histogram: id and time, numbers, lists
pub record Histogram (S B : Type 0) : Type 0 where
  pub head : Head
  pub numbers : Numbers
  pub lists : Lists S B

-- with the places of its lists
unfoldable pub histogram_at : BucketKind → List ℕ → ℕ → Field (Histogram (Listed Span) (Listed ℕ))
histogram_at k s p =
    and_then (head_at s p) (λ h q.
    and_then (numbers_at k s q) (λ n r.
    and_then (lists_at k s r) (λ l t.
    got (record { head = h; numbers = n; lists = l }) t)))

-- written after the `used` bytes of the body in buffer b (FORMAT 10.4)
unfoldable pub histogram_bytes : List ℕ → ℕ → BucketKind → Histogram (List Span) (List ℕ) → List ℕ
histogram_bytes b used k h =
    head_bytes b used h.head.id (to_bits h.head.time) ++ (numbers_bytes k h.numbers ++ lists_bytes k h.lists)

-- ---- the lists alone, their places alone

abbrev pub map_sides : {A B : Type 0} → (A → B) → Sides A → Sides B
map_sides f l = record { positive = f l.positive; negative = f l.negative }

abbrev pub map_lists : {S B T C : Type 0} → (S → T) → (B → C) → Lists S B → Lists T C
map_lists f g l = record { spans = map_sides f l.spans; buckets = map_sides g l.buckets }

-- a histogram without the places of its lists
abbrev pub bare : Histogram (Listed Span) (Listed ℕ) → Histogram (List Span) (List ℕ)
bare h = record {
  head = h.head;
  numbers = h.numbers;
  lists = map_lists (λ (a : Listed Span). a.items) (λ (b : Listed ℕ). b.items) h.lists;
}

-- where the first element of each list is
abbrev pub firsts : Histogram (Listed Span) (Listed ℕ) → Lists ℕ ℕ
firsts h = map_lists (λ (a : Listed Span). a.first) (λ (b : Listed ℕ). b.first) h.lists

-- ---- spans as the caller gives them: one list of offsets, and one of lengths

pub record LentSpans : Type 0 where
  pub gaps : List ℤ
  pub sizes : List ℕ

-- the spans: each takes an offset and a length from the front
unfoldable pub join_spans : List ℤ → List ℕ → List Span
join_spans [] sizes = []
join_spans (g ∷ gaps) [] = []
join_spans (g ∷ gaps) (n ∷ sizes) = record { gap = g; size = n } ∷ join_spans gaps sizes

abbrev pub spans_of : LentSpans → List Span
spans_of l = join_spans l.gaps l.sizes

-- BadList (FORMAT 10.5): not as many offsets as lengths
unfoldable pub bad_spans : LentSpans → Bool
bad_spans l = not (eqb (length l.gaps) (length l.sizes))
