-- Laws of places: a reading that succeeds goes forward by at least the fewest bytes that its field
-- can have, and ends within the body.
-- Assumes nothing.
use Rattle.std.proofs.Common.{◌≡◌, Bool, cond, List, drop, refl, true, false, ℕ, zero, suc, ◌+◌, ◌*◌, ◌^◌, ◌≤◌, ◌<◌, length, take, ltb, subst, arith, ltb-true, ltb-false, length-drop}
use Rattle.std.specs.Int.Signed.{mag}
use Rattle.wal_types.specs.declared.Refusal.{Refusal}
use Rattle.wal_types.specs.declared.Refusal.TheVariants.{Short}
use Rattle.wal_types.specs.Terms.{offset}
use Rattle.uvarint.specs.Results.UvarintRead.{UvarintRead}
use Rattle.uvarint.specs.Results.UvarintRead as u
use Rattle.varint.specs.Results.VarintRead.{VarintRead}
use Rattle.varint.specs.Results.VarintRead as v
use Rattle.uvarint.specs.Uvarint.{read_uvarint}
use Rattle.uvarint.specs.UvarintLaws.{taken}
use Rattle.varint.specs.Varint.{read_varint}
use Rattle.varint.specs.VarintLaws.{taken-varint}
use Rattle.body_format.specs.Fields.{Field, got, fault, and_then, byte_at, fixed_at, uvarint_of, uvarint_at, varint_of, varint_at, StringField, string_at, strings_at, string_list_at}
use Rattle.body_format.specs.Heads.{delta_at, head_at}
use Rattle.body_format.specs.declared.BucketKind.{BucketKind}
use Rattle.body_format.specs.declared.BucketKind.TheVariants.{Whole, Float}
use Rattle.body_format.specs.declared.Element.{Element}
use Rattle.body_format.specs.declared.Element.TheVariants as element
use Rattle.body_format.specs.Histograms.{int32_at, uint32_at, count_at, bucket_at, span_at, item_at, items_at, list_at, sides_at, numbers_at, lists_at, histogram_at}
use Rattle.body_format.specs.Entries.{BodyType, series, samples, tombstones, exemplars, metadata, histograms, row_at, series_at, sample_at, tombstone_at, exemplar_at, metadata_at, histogram_entry_at, entry_at}
use Rattle.body_format.proofs.Laws.Fields.{byte_got, byte_short, fixed_got, fixed_short}

-- ---- what holds of a reading where it succeeds

-- P holds of the value and the place after it
abbrev pub Every : {A : Type 0} → (A → ℕ → Type 0) → Field A → Type 0
Every P (got a q) = P a q
Every P (fault why) = Unit {0}

-- one field and then the next
pub every_then : {A B : Type 0} (P : A → ℕ → Type 0) (Q : B → ℕ → Type 0) (x : Field A) (f : A → ℕ → Field B)
    → Every P x → ((a : A) (q : ℕ) → P a q → Every Q (f a q)) → Every Q (and_then x f)
every_then P Q (got a q) f h k = k a q h
every_then P Q (fault why) f h k = tt

-- two such facts at once
pub every_both : {A : Type 0} (P Q : A → ℕ → Type 0) (x : Field A) → Every P x → Every Q x → Every (λ a q. P a q × Q a q) x
every_both P Q (got a q) h k = (h, k)
every_both P Q (fault why) h k = tt

-- what is known of every success, for this one
pub of_got : {A : Type 0} (P : A → ℕ → Type 0) (x : Field A) (a : A) (q : ℕ) → Every P x → x ≡ got a q → P a q
of_got P x a q h e = subst (Every P) e h

-- ---- forward, and within

-- at least k bytes on from p, and at most at n
abbrev pub Ahead : {A : Type 0} → ℕ → ℕ → ℕ → Field A → Type 0
Ahead k p n x = Every (λ a q. (p + k ≤ q) × (q ≤ n)) x

-- one field and then the next: the bytes add up
pub ahead_then : {A B : Type 0} (j k m p n : ℕ) → m ≤ j + k → (x : Field A) (f : A → ℕ → Field B)
    → Ahead j p n x → ((a : A) (q : ℕ) → q ≤ n → Ahead k q n (f a q)) → Ahead m p n (and_then x f)
ahead_then {B = B} j k m p n w (got a q) f (h, l) g = farther (f a q) (g a q l)
  where
    farther : (y : Field B) → Ahead k q n y → Ahead m p n y
    farther (got b r) (i, o) = (omega arith, o)
    farther (fault why) t = tt
ahead_then j k m p n w (fault why) f h g = tt

-- at least j bytes are at least k, where k is less
ahead_less : {A : Type 0} (j k p n : ℕ) (x : Field A) → k ≤ j → Ahead j p n x → Ahead k p n x
ahead_less j k p n (got a q) w (h, l) = (omega arith, l)
ahead_less j k p n (fault why) w h = tt

-- a value that is in range, or a fault
ahead_in_range : {A : Type 0} (t : Bool) (a : A) (q n : ℕ) (why : Refusal) → q ≤ n → Ahead 0 q n (cond t (got a q) (fault why))
ahead_in_range true a q n why h = (omega arith, h)
ahead_in_range false a q n why h = tt

module _ (s : List ℕ) where
  -- a byte
  pub byte_ahead : (p : ℕ) → Ahead 1 p (length s) (byte_at s p)
  byte_ahead p = go (ltb p (length s)) refl
    where
      go : (t : Bool) → ltb p (length s) ≡ t → Ahead 1 p (length s) (byte_at s p)
      go true e = let h : p < length s = ltb-true p (length s) e in rw (byte_got s p h) (omega arith)
      go false e = rw (byte_short s p (ltb-false p (length s) e)) tt

  -- eight bytes
  pub fixed_ahead : (p : ℕ) → Ahead 8 p (length s) (fixed_at s p)
  fixed_ahead p = go (ltb (length s) (p + 8)) refl
    where
      go : (t : Bool) → ltb (length s) (p + 8) ≡ t → Ahead 8 p (length s) (fixed_at s p)
      go true e = rw (fixed_short s p (ltb-true (length s) (p + 8) e)) tt
      go false e = let h : p + 8 ≤ length s = ltb-false (length s) (p + 8) e in rw (fixed_got s p h) (omega arith)

  -- a uvarint
  pub uvarint_ahead : (p : ℕ) → Ahead 1 p (length s) (uvarint_at s p)
  unfolding uvarint_at
  uvarint_ahead p = go (read_uvarint (drop p s)) refl
    where
      go : (r : UvarintRead) → read_uvarint (drop p s) ≡ r → Ahead 1 p (length s) (uvarint_of p r)
      go (u.Value n len) e = let t = taken (drop p s) n len e in omega (arith, length-drop p s)
      go u.Short e = tt
      go u.BadVarint e = tt

  -- a varint
  pub varint_ahead : (p : ℕ) → Ahead 1 p (length s) (varint_at s p)
  unfolding varint_at
  varint_ahead p = go (read_varint (drop p s)) refl
    where
      go : (r : VarintRead) → read_varint (drop p s) ≡ r → Ahead 1 p (length s) (varint_of p r)
      go (v.Value x len) e = let t = (taken-varint (drop p s) x len e).0 in omega (arith, length-drop p s)
      go v.Short e = tt
      go v.BadVarint e = tt

  -- a string, at least the byte of its length
  pub string_ahead : (p : ℕ) → Ahead 1 p (length s) (string_at s p)
  unfolding string_at
  string_ahead p = ahead_then 1 0 1 p (length s) (omega arith) (uvarint_at s p) _ (uvarint_ahead p) (λ n q l. inside n q l (ltb (length (drop q s)) n) refl)
    where
      inside : (n q : ℕ) → q ≤ length s → (t : Bool) → ltb (length (drop q s)) n ≡ t
          → Ahead {A = StringField} 0 q (length s) (cond t (fault (Short (offset p))) (got (record { start = q; bytes = take n (drop q s) }) (q + n)))
      inside n q l true e = tt
      inside n q l false e = let h : n ≤ length (drop q s) = ltb-false (length (drop q s)) n e in omega (arith, length-drop q s)

  -- each of k strings has a byte at least
  pub strings_ahead : (k p : ℕ) → p ≤ length s → Ahead k p (length s) (strings_at k s p)
  unfolding strings_at
  strings_ahead zero p h = omega arith
  strings_ahead (suc k) p h =
      ahead_then 1 k (suc k) p (length s) (omega arith) (string_at s p) _ (string_ahead p)
      (λ t q l. ahead_then k 0 k q (length s) (omega arith) (strings_at k s q) _ (strings_ahead k q l) (λ ts r m. omega arith))

  -- a list of strings, at least the byte of its count
  pub list_ahead : (p : ℕ) → Ahead 1 p (length s) (string_list_at s p)
  unfolding string_list_at
  list_ahead p =
      ahead_then 1 0 1 p (length s) (omega arith) (uvarint_at s p) _ (uvarint_ahead p)
      (λ n q l. ahead_then (2 * n) 0 0 q (length s) (omega arith) (strings_at (2 * n) s q) _ (strings_ahead (2 * n) q l) (λ ts r m. omega arith))

  -- a delta, at least a byte
  pub delta_ahead : (p : ℕ) → Ahead 1 p (length s) (delta_at s p)
  unfolding delta_at
  delta_ahead p = ahead_then 1 0 1 p (length s) (omega arith) (varint_at s p) _ (varint_ahead p) (λ x q l. omega arith)

  -- the head of a row has two
  pub head_ahead : (p : ℕ) → Ahead 2 p (length s) (head_at s p)
  unfolding head_at
  head_ahead p =
      ahead_then 1 1 2 p (length s) (omega arith) (delta_at s p) _ (delta_ahead p)
      (λ d q l. ahead_then 1 0 1 q (length s) (omega arith) (delta_at s q) _ (delta_ahead q) (λ e next m. omega arith))

  -- a row has a head and eight bytes
  pub row_ahead : (p : ℕ) → Ahead 10 p (length s) (row_at s p)
  unfolding row_at
  row_ahead p =
      ahead_then 2 8 10 p (length s) (omega arith) (head_at s p) _ (head_ahead p)
      (λ h q l. ahead_then 8 0 8 q (length s) (omega arith) (fixed_at s q) _ (fixed_ahead q) (λ v next m. omega arith))

  -- a number of 32 bits, signed or not
  int32_ahead : (p : ℕ) → Ahead 1 p (length s) (int32_at s p)
  unfolding int32_at
  int32_ahead p =
      ahead_then 1 0 1 p (length s) (omega arith) (varint_at s p) _ (varint_ahead p)
      (λ x q l. ahead_in_range (ltb (mag x) (2 ^ 31)) x q (length s) _ l)

  uint32_ahead : (p : ℕ) → Ahead 1 p (length s) (uint32_at s p)
  unfolding uint32_at
  uint32_ahead p =
      ahead_then 1 0 1 p (length s) (omega arith) (uvarint_at s p) _ (uvarint_ahead p)
      (λ n q l. ahead_in_range (ltb n (2 ^ 32)) n q (length s) _ l)

  -- a count, of either kind
  count_ahead : (k : BucketKind) (p : ℕ) → Ahead 1 p (length s) (count_at k s p)
  unfolding count_at
  count_ahead Whole p = uvarint_ahead p
  count_ahead Float p = ahead_less 8 1 p (length s) (fixed_at s p) (omega arith) (fixed_ahead p)

  -- a span, and a bucket of either kind
  pub item_ahead : (x : Element) (p : ℕ) → Ahead 1 p (length s) (item_at x s p)
  unfolding span_at bucket_at
  item_ahead element.Span p =
      ahead_then 1 1 1 p (length s) (omega arith) (int32_at s p) _ (int32_ahead p)
      (λ g q l. ahead_then 1 0 1 q (length s) (omega arith) (uint32_at s q) _ (uint32_ahead q) (λ n r m. omega arith))
  item_ahead (element.Bucket Whole) p = delta_ahead p
  item_ahead (element.Bucket Float) p = ahead_less 8 1 p (length s) (fixed_at s p) (omega arith) (fixed_ahead p)

  -- each of n elements has a byte at least
  pub items_ahead : (x : Element) (n p : ℕ) → p ≤ length s → Ahead n p (length s) (items_at x n s p)
  unfolding items_at
  items_ahead x zero p h = omega arith
  items_ahead x (suc n) p h =
      ahead_then 1 n (suc n) p (length s) (omega arith) (item_at x s p) _ (item_ahead x p)
      (λ a q l. ahead_then n 0 n q (length s) (omega arith) (items_at x n s q) _ (items_ahead x n q l) (λ as' r m. omega arith))

  -- a list of them, at least the byte of its count
  pub items-list_ahead : (x : Element) (p : ℕ) → Ahead 1 p (length s) (list_at x s p)
  unfolding list_at
  items-list_ahead x p =
      ahead_then 1 0 1 p (length s) (omega arith) (uvarint_at s p) _ (uvarint_ahead p)
      (λ n q l. ahead_then n 0 0 q (length s) (omega arith) (items_at x n s q) _ (items_ahead x n q l) (λ as' r m. omega arith))

  -- both sides
  sides_ahead : (x : Element) (p : ℕ) → Ahead 2 p (length s) (sides_at x s p)
  unfolding sides_at
  sides_ahead x p =
      ahead_then 1 1 2 p (length s) (omega arith) (list_at x s p) _ (items-list_ahead x p)
      (λ a q l. ahead_then 1 0 1 q (length s) (omega arith) (list_at x s q) _ (items-list_ahead x q) (λ b r m. omega arith))

  -- the numbers of a histogram
  numbers_ahead : (k : BucketKind) (p : ℕ) → Ahead 1 p (length s) (numbers_at k s p)
  unfolding numbers_at
  numbers_ahead k p =
      ahead_then 1 0 1 p (length s) (omega arith) (byte_at s p) _ (byte_ahead p)
      (λ hint q l. ahead_then 1 0 0 q (length s) (omega arith) (int32_at s q) _ (int32_ahead q)
      (λ schema r m. ahead_then 8 0 0 r (length s) (omega arith) (fixed_at s r) _ (fixed_ahead r)
      (λ threshold t n. ahead_then 1 0 0 t (length s) (omega arith) (count_at k s t) _ (count_ahead k t)
      (λ zeros u o. ahead_then 1 0 0 u (length s) (omega arith) (count_at k s u) _ (count_ahead k u)
      (λ count v i. ahead_then 8 0 0 v (length s) (omega arith) (fixed_at s v) _ (fixed_ahead v) (λ sum w j. omega arith))))))

  -- its four lists
  lists_ahead : (k : BucketKind) (p : ℕ) → Ahead 2 p (length s) (lists_at k s p)
  unfolding lists_at
  lists_ahead k p =
      ahead_then 2 0 2 p (length s) (omega arith) (sides_at element.Span s p) _ (sides_ahead element.Span p)
      (λ a q l. ahead_then 2 0 0 q (length s) (omega arith) (sides_at (element.Bucket k) s q) _ (sides_ahead (element.Bucket k) q) (λ b r m. omega arith))

  -- a histogram, at least its head
  pub histogram_ahead : (k : BucketKind) (p : ℕ) → Ahead 2 p (length s) (histogram_at k s p)
  unfolding histogram_at
  histogram_ahead k p =
      ahead_then 2 0 2 p (length s) (omega arith) (head_at s p) _ (head_ahead p)
      (λ h q l. ahead_then 1 0 0 q (length s) (omega arith) (numbers_at k s q) _ (numbers_ahead k q)
      (λ n r m. ahead_then 2 0 0 r (length s) (omega arith) (lists_at k s r) _ (lists_ahead k r) (λ z t o. omega arith)))

  -- every entry has a byte at least
  pub entry_ahead : (k : BodyType) (p : ℕ) → Ahead 1 p (length s) (entry_at k s p)
  unfolding series_at sample_at tombstone_at exemplar_at metadata_at histogram_entry_at
  entry_ahead series p =
      ahead_then 8 1 1 p (length s) (omega arith) (fixed_at s p) _ (fixed_ahead p)
      (λ id q l. ahead_then 1 0 1 q (length s) (omega arith) (string_list_at s q) _ (list_ahead q) (λ ts r m. omega arith))
  entry_ahead samples p = ahead_then 10 0 1 p (length s) (omega arith) (row_at s p) _ (row_ahead p) (λ w q l. omega arith)
  entry_ahead tombstones p =
      ahead_then 8 1 1 p (length s) (omega arith) (fixed_at s p) _ (fixed_ahead p)
      (λ id q l. ahead_then 1 0 1 q (length s) (omega arith) (varint_at s q) _ (varint_ahead q)
      (λ min r m. ahead_then 1 0 0 r (length s) (omega arith) (varint_at s r) _ (varint_ahead r) (λ max next i. omega arith)))
  entry_ahead exemplars p =
      ahead_then 10 1 1 p (length s) (omega arith) (row_at s p) _ (row_ahead p)
      (λ w q l. ahead_then 1 0 1 q (length s) (omega arith) (string_list_at s q) _ (list_ahead q) (λ ts r m. omega arith))
  entry_ahead metadata p =
      ahead_then 1 1 1 p (length s) (omega arith) (uvarint_at s p) _ (uvarint_ahead p)
      (λ id q l. ahead_then 1 0 1 q (length s) (omega arith) (byte_at s q) _ (byte_ahead q)
      (λ metric r m. ahead_then 1 0 0 r (length s) (omega arith) (string_list_at s r) _ (list_ahead r) (λ ts next i. omega arith)))
  entry_ahead (histograms k) p =
      ahead_then 2 0 1 p (length s) (omega arith) (histogram_at k s p) _ (histogram_ahead k p) (λ h q l. omega arith)
