-- Laws of histograms: what was written reads back, from a field to an entry. Each law stands once,
-- over the bucket kind or the element.
-- Assumes nothing.
use Rattle.std.proofs.Common.{◌≡◌, refl, List, [], ◌∷◌, ◌++◌, ℕ, zero, suc, ◌+◌, ◌^◌, ◌≤◌, ◌<◌, ℤ, length, ap, ◌∙◌, arith, lt-ltb, length-append}
use Rattle.std.specs.Int.Signed.{mag}
use Rattle.wal_types.specs.Deltas.{to_bits}
use Rattle.uvarint.specs.Uvarint.{uvarint}
use Rattle.uvarint.specs.UvarintLaws.{length-at-least_1}
use Rattle.varint.specs.Varint.{varint, zigzag}
use Rattle.big_endian.specs.Fixed.{be8}
use Rattle.big_endian.specs.FixedLaws.{length-be8}
use Rattle.body_format.specs.declared.BucketKind.{BucketKind}
use Rattle.body_format.specs.declared.BucketKind.TheVariants.{Whole, Float}
use Rattle.body_format.specs.declared.Element.{Element}
use Rattle.body_format.specs.declared.Element.TheVariants as element
use Rattle.body_format.specs.declared.Numbers.{Numbers}
use Rattle.body_format.specs.Fields.{Field, got, fault, and_then}
use Rattle.body_format.specs.Heads.{head_bytes}
use Rattle.body_format.specs.Histograms.{int32_at, uint32_at, count_at, count_bytes, bucket_at, bucket_bytes, Span, span_at, span_bytes, Item, item_at, item_bytes, items_at, items_bytes, Listed, list_at, list_bytes, Sides, sides_at, sides_bytes, numbers_at, numbers_bytes, Lists, lists_at, lists_bytes, Histogram, histogram_at, histogram_bytes}
use Rattle.body_format.specs.Claims.{NumbersFit, ItemFits, ItemsFit, SidesFit}
use Rattle.body_format.proofs.Laws.Fields.{place_same, Stands, stands-left, stands_right, read_byte, read_fixed, read-uvarint-at, read-varint-at}
use Rattle.body_format.proofs.Laws.Heads.{delta_bytes_lem, read_delta, Firsts, read_head}
use Rattle.body_format.proofs.Laws.Bounds.{Every, every_then, of_got}

-- ---- how many bytes

-- an element has one at least
item_some : (x : Element) (a : Item x) → 1 ≤ length (item_bytes x a)
unfolding span_bytes bucket_bytes
item_some element.Span a =
    omega (arith, length-append (varint a.gap) (uvarint a.size), length-at-least_1 a.size)
item_some (element.Bucket Whole) v = rw (delta_bytes_lem v) (length-at-least_1 (zigzag _))
item_some (element.Bucket Float) v = omega (arith, length-be8 v)

module _ (x : Element) where
  -- the first of them and the others
  pub length-items : (a : Item x) (l : List (Item x)) → length (items_bytes x (a ∷ l)) ≡ length (item_bytes x a) + length (items_bytes x l)
  unfolding items_bytes
  length-items a l = length-append (item_bytes x a) (items_bytes x l)

  -- so there are no more elements than bytes
  pub count-items : (l : List (Item x)) → length l ≤ length (items_bytes x l)
  count-items [] = omega arith
  count-items (a ∷ l) = omega (arith, length-items a l, item_some x a, count-items l)

  -- a list: its count and its elements
  pub length-items-list : (l : List (Item x)) → length (list_bytes x l) ≡ length (uvarint (length l)) + length (items_bytes x l)
  unfolding list_bytes
  length-items-list l = length-append (uvarint (length l)) (items_bytes x l)

  -- both sides
  pub length-sides : (l : Sides (List (Item x))) → length (sides_bytes x l) ≡ length (list_bytes x l.positive) + length (list_bytes x l.negative)
  unfolding sides_bytes
  length-sides l = length-append (list_bytes x l.positive) (list_bytes x l.negative)

-- the four lists
pub length-lists : (k : BucketKind) (l : Lists (List Span) (List ℕ))
    → length (lists_bytes k l) ≡ length (sides_bytes element.Span l.spans) + length (sides_bytes (element.Bucket k) l.buckets)
unfolding lists_bytes
length-lists k l = length-append (sides_bytes element.Span l.spans) (sides_bytes (element.Bucket k) l.buckets)

-- a histogram: its head, its numbers and its lists
pub length-histogram : (b : List ℕ) (used : ℕ) (k : BucketKind) (h : Histogram (List Span) (List ℕ))
    → length (histogram_bytes b used k h)
    ≡ length (head_bytes b used h.head.id (to_bits h.head.time)) + (length (numbers_bytes k h.numbers) + length (lists_bytes k h.lists))
unfolding histogram_bytes
length-histogram b used k h =
    length-append (head_bytes b used h.head.id (to_bits h.head.time)) (numbers_bytes k h.numbers ++ lists_bytes k h.lists)
    ∙ ap (λ (n : ℕ). length (head_bytes b used h.head.id (to_bits h.head.time)) + n)
    (length-append (numbers_bytes k h.numbers) (lists_bytes k h.lists))

-- it has the byte of its hint
pub histogram-some : (b : List ℕ) (used : ℕ) (k : BucketKind) (h : Histogram (List Span) (List ℕ)) → 0 < length (histogram_bytes b used k h)
unfolding numbers_bytes
histogram-some b used k h = omega (arith, length-histogram b used k h)

-- ---- how many elements

-- as many as were asked for
items-count : (x : Element) (n : ℕ) (s : List ℕ) (p : ℕ) → Every (λ (l : List (Item x)) q. length l ≡ n) (items_at x n s p)
unfolding items_at
items-count x zero s p = refl
items-count x (suc n) s p =
    every_then (λ a q. Unit {0}) _ (item_at x s p) _ (any (item_at x s p))
    (λ a q t. every_then (λ (l : List (Item x)) r. length l ≡ n) _ (items_at x n s q) _ (items-count x n s q) (λ l r h. ap suc h))
  where
    any : (f : Field (Item x)) → Every (λ a q. Unit {0}) f
    any (got a q) = tt
    any (fault why) = tt

pub items-counted : (x : Element) (n : ℕ) (s : List ℕ) (p : ℕ) (l : List (Item x)) (q : ℕ) → items_at x n s p ≡ got l q → length l ≡ n
items-counted x n s p l q e = of_got _ (items_at x n s p) l q (items-count x n s p) e

-- ---- fields in a row

-- a field of the bytes w, and then what reads the bytes v
read_next : {A B : Type 0} (s : List ℕ) (p : ℕ) (w v : List ℕ) (f : Field A) (g : A → ℕ → Field B) {a : A} {b : B}
    → (Stands s p w → f ≡ got a (p + length w))
    → (Stands s (p + length w) v → g a (p + length w) ≡ got b (p + length w + length v))
    → Stands s p (w ++ v) → and_then f g ≡ got b (p + length (w ++ v))
read_next s p w v f g r t st =
    rw (r (stands-left s p w v st)) (t (stands_right s p w v st) ∙ place_same (omega (arith, length-append w v)))

-- the last field
read_last : {A B : Type 0} (s : List ℕ) (p : ℕ) (w : List ℕ) (f : Field A) (g : A → B) {a : A}
    → (Stands s p w → f ≡ got a (p + length w)) → Stands s p w → and_then f (λ x q. got (g x) q) ≡ got (g a) (p + length w)
read_last s p w f g r st = rw (r st)

-- ---- what was written reads back

module _ (s : List ℕ) (p : ℕ) where
  -- a number of 32 bits, signed or not
  read_int32 : (x : ℤ) → mag x < 2 ^ 31 → Stands s p (varint x) → int32_at s p ≡ got x (p + length (varint x))
  unfolding int32_at
  read_int32 x h st = rw (read-varint-at s p x (omega arith) st, lt-ltb (mag x) (2 ^ 31) h)

  read_uint32 : (n : ℕ) → n < 2 ^ 32 → Stands s p (uvarint n) → uint32_at s p ≡ got n (p + length (uvarint n))
  unfolding uint32_at
  read_uint32 n h st = rw (read-uvarint-at s p n (omega arith) st, lt-ltb n (2 ^ 32) h)

  -- a count
  read_count : (k : BucketKind) (n : ℕ) → n < 2 ^ 64 → Stands s p (count_bytes k n) → count_at k s p ≡ got n (p + length (count_bytes k n))
  unfolding count_at count_bytes
  read_count Whole n h st = read-uvarint-at s p n h st
  read_count Float n h st = read_fixed s p n h st

-- an element
read_item : (x : Element) (s : List ℕ) (p : ℕ) (a : Item x) → ItemFits x a → Stands s p (item_bytes x a)
    → item_at x s p ≡ got a (p + length (item_bytes x a))
unfolding span_at span_bytes bucket_at bucket_bytes
read_item element.Span s p a (h, k) st =
    read_next s p (varint a.gap) (uvarint a.size) _ _ (read_int32 s p a.gap h)
    (read_last s _ (uvarint a.size) _ _ (read_uint32 s _ a.size k)) st
read_item (element.Bucket Whole) s p v h st = read_delta s p v h st
read_item (element.Bucket Float) s p v h st = read_fixed s p v h st

-- elements in a row
read-items : (x : Element) (s : List ℕ) (p : ℕ) (l : List (Item x)) → ItemsFit x l → Stands s p (items_bytes x l)
    → items_at x (length l) s p ≡ got l (p + length (items_bytes x l))
unfolding items_at items_bytes
read-items x s p [] h st = place_same (omega arith)
read-items x s p (a ∷ l) (h, k) st =
    rw (
      read_item x s p a h (stands-left s p (item_bytes x a) (items_bytes x l) st),
      read-items x s (p + length (item_bytes x a)) l k (stands_right s p (item_bytes x a) (items_bytes x l) st),
    )
    (place_same (omega (arith, length-append (item_bytes x a) (items_bytes x l))))

-- a list, which begins after its count
read-items-list : (x : Element) (s : List ℕ) (p : ℕ) (l : List (Item x)) → length (list_bytes x l) < 2 ^ 64 → ItemsFit x l
    → Stands s p (list_bytes x l)
    → list_at x s p ≡ got (record { first = p + length (uvarint (length l)); items = l }) (p + length (list_bytes x l))
unfolding list_at list_bytes
read-items-list x s p l m h st =
    let n : List ℕ = uvarint (length l) in
    let most : length l < 2 ^ 64 = omega (arith, count-items x l, length-append n (items_bytes x l)) in
    rw (
      read-uvarint-at s p (length l) most (stands-left s p n (items_bytes x l) st),
      read-items x s (p + length n) l h (stands_right s p n (items_bytes x l) st),
    )
    (place_same (omega (arith, length-append n (items_bytes x l))))

-- the lists l, from the places `first` on
abbrev placed : {A : Type 0} → Sides ℕ → Sides (List A) → Sides (Listed A)
placed first l = record {
  positive = record { first = first.positive; items = l.positive };
  negative = record { first = first.negative; items = l.negative };
}

-- both sides
read-sides : (x : Element) (s : List ℕ) (p : ℕ) (l : Sides (List (Item x))) → length (sides_bytes x l) < 2 ^ 64 → SidesFit x l
    → Stands s p (sides_bytes x l)
    → (first : Sides ℕ) × (sides_at x s p ≡ got (placed first l) (p + length (sides_bytes x l)))
unfolding sides_at sides_bytes
read-sides x s p l m (h, k) st =
    let up : List ℕ = list_bytes x l.positive in
    let down : List ℕ = list_bytes x l.negative in
    let sum : length (up ++ down) ≡ length up + length down = length-append up down in (
      record { positive = _; negative = _ },
      read_next s p up down _ _ (read-items-list x s p l.positive (omega arith) h)
          (read_last s (p + length up) down _ _ (read-items-list x s (p + length up) l.negative (omega arith) k))
          st,
    )

-- the four lists
read-lists : (k : BucketKind) (s : List ℕ) (p : ℕ) (l : Lists (List Span) (List ℕ)) → length (lists_bytes k l) < 2 ^ 64
    → SidesFit element.Span l.spans → SidesFit (element.Bucket k) l.buckets
    → Stands s p (lists_bytes k l)
    → (first : Lists ℕ ℕ)
    × (lists_at k s p ≡ got (record { spans = placed first.spans l.spans; buckets = placed first.buckets l.buckets }) (p + length (lists_bytes k l)))
unfolding lists_at lists_bytes
read-lists k s p l m h j st =
    let spans : List ℕ = sides_bytes element.Span l.spans in
    let buckets : List ℕ = sides_bytes (element.Bucket k) l.buckets in
    let sum : length (spans ++ buckets) ≡ length spans + length buckets = length-append spans buckets in
    let a = read-sides element.Span s p l.spans (omega arith) h (stands-left s p spans buckets st) in
    let b = read-sides (element.Bucket k) s (p + length spans) l.buckets (omega arith) j (stands_right s p spans buckets st) in (
      record { spans = a.0; buckets = b.0 },
      read_next s p spans buckets _ _ (λ t. a.1) (read_last s (p + length spans) buckets _ _ (λ t. b.1)) st,
    )

-- the numbers
read-numbers : (k : BucketKind) (s : List ℕ) (p : ℕ) (n : Numbers) → NumbersFit n → Stands s p (numbers_bytes k n)
    → numbers_at k s p ≡ got n (p + length (numbers_bytes k n))
unfolding numbers_at numbers_bytes
read-numbers k s p n (h, i, j, l, m) st =
    read_next s p (n.hint ∷ [])
    (varint n.schema ++ (be8 n.threshold ++ (count_bytes k n.zeros ++ (count_bytes k n.count ++ be8 n.sum)))) _ _
    (read_byte s p n.hint)
    (read_next s _ (varint n.schema) _ _ _ (read_int32 s _ n.schema h)
    (read_next s _ (be8 n.threshold) _ _ _ (read_fixed s _ n.threshold i)
    (read_next s _ (count_bytes k n.zeros) _ _ _ (read_count s _ k n.zeros j)
    (read_next s _ (count_bytes k n.count) _ _ _ (read_count s _ k n.count l)
    (read_last s _ (be8 n.sum) _ _ (read_fixed s _ n.sum m))))))
    st

-- its id, time, numbers and elements are as the calls' types have them
abbrev pub HistogramFits : BucketKind → Histogram (List Span) (List ℕ) → Type 0
HistogramFits k h =
    (h.head.id < 2 ^ 64) × (mag h.head.time < 2 ^ 63) × NumbersFit h.numbers
    × SidesFit element.Span h.lists.spans × SidesFit (element.Bucket k) h.lists.buckets

-- a histogram after the first id and the first timestamp, and some places where its lists begin
pub read-histogram : (b : List ℕ) (used : ℕ) (s : List ℕ) (p : ℕ) (k : BucketKind) (h : Histogram (List Span) (List ℕ)) → HistogramFits k h
    → length (histogram_bytes b used k h) < 2 ^ 64 → Firsts b used s
    → Stands s p (histogram_bytes b used k h)
    → (first : Lists ℕ ℕ)
    × (histogram_at k s p ≡ got (record {
      head = h.head;
      numbers = h.numbers;
      lists = record { spans = placed first.spans h.lists.spans; buckets = placed first.buckets h.lists.buckets };
    }) (p + length (histogram_bytes b used k h)))
unfolding histogram_at histogram_bytes
read-histogram b used s p k h (hi, ht, hn, hs, hb) m firsts st =
    let head : List ℕ = head_bytes b used h.head.id (to_bits h.head.time) in
    let numbers : List ℕ = numbers_bytes k h.numbers in
    let lists : List ℕ = lists_bytes k h.lists in
    let sum : length (head ++ (numbers ++ lists)) ≡ length head + length (numbers ++ lists) = length-append head (numbers ++ lists) in
    let rest : length (numbers ++ lists) ≡ length numbers + length lists = length-append numbers lists in
    let q : ℕ = p + length head + length numbers in
    let l = read-lists k s q h.lists (omega arith) hs hb
    (stands_right s (p + length head) numbers lists (stands_right s p head (numbers ++ lists) st)) in (
      l.0,
      read_next s p head (numbers ++ lists) _ _ (read_head b used s p h.head.id h.head.time hi ht firsts)
          (read_next s (p + length head) numbers lists _ _ (read-numbers k s (p + length head) h.numbers hn)
          (read_last s q lists _ _ (λ t. l.1)))
          st,
    )
