-- Laws of more bytes: those that follow a body do not change a reading that succeeded in it.
-- Assumes nothing.
use Rattle.std.proofs.Common.{◌≡◌, Bool, cond, List, ◌++◌, drop, refl, true, false, ℕ, zero, suc, ◌+◌, ◌*◌, ◌^◌, ◌≤◌, ◌<◌, length, take, ltb, ap, ◌∙◌, arith, le-ltb, ltb-true, ltb-false, length-append, length-drop}
use Rattle.std.proofs.Math.ListN.{get_or-append}
use Rattle.std.proofs.lemmas.List.{drop-append-le}
use Rattle.std.proofs.Math.Seq.{take-append-le}
use Rattle.std.specs.Int.Signed.{mag}
use Rattle.wal_types.specs.declared.Refusal.{Refusal}
use Rattle.wal_types.specs.declared.Refusal.TheVariants.{Short}
use Rattle.wal_types.specs.Terms.{offset}
use Rattle.uvarint.specs.Results.UvarintRead.{UvarintRead}
use Rattle.uvarint.specs.Results.UvarintRead as u
use Rattle.varint.specs.Results.VarintRead.{VarintRead}
use Rattle.varint.specs.Results.VarintRead as v
use Rattle.uvarint.specs.Uvarint.{read_uvarint}
use Rattle.uvarint.specs.UvarintLaws.{taken, append-value}
use Rattle.varint.specs.Varint.{read_varint}
use Rattle.varint.specs.VarintLaws.{taken-varint, append-value-varint}
use Rattle.big_endian.specs.Fixed.{read_be8}
use Rattle.big_endian.specs.FixedLaws.{append-be8}
use Rattle.body_format.specs.Fields.{Field, got, fault, and_then, byte_at, fixed_at, uvarint_of, uvarint_at, varint_of, varint_at, StringField, string_at, strings_at, string_list_at}
use Rattle.body_format.specs.Heads.{delta_at, head_at}
use Rattle.body_format.specs.declared.BucketKind.{BucketKind}
use Rattle.body_format.specs.declared.BucketKind.TheVariants.{Whole, Float}
use Rattle.body_format.specs.declared.Element.{Element}
use Rattle.body_format.specs.declared.Element.TheVariants as element
use Rattle.body_format.specs.Histograms.{int32_at, uint32_at, count_at, bucket_at, span_at, item_at, items_at, list_at, sides_at, numbers_at, lists_at, histogram_at}
use Rattle.body_format.specs.Entries.{BodyType, series, samples, tombstones, exemplars, metadata, histograms, has_rows, row_at, series_at, sample_at, tombstone_at, exemplar_at, metadata_at, histogram_entry_at, entry_at}
use Rattle.body_format.proofs.Laws.Fields.{byte_got, byte_short, fixed_got, fixed_short}
use Rattle.body_format.proofs.Laws.Bounds.{Every, uvarint_ahead}

-- where x succeeds, y succeeds with the same value and place
abbrev pub Kept : {A : Type 0} → Field A → Field A → Type 0
Kept x y = Every (λ a q. y ≡ got a q) x

-- one field and then the next
pub kept_then : {A B : Type 0} (x y : Field A) (f g : A → ℕ → Field B)
    → Kept x y → ((a : A) (q : ℕ) → Kept (f a q) (g a q)) → Kept (and_then x f) (and_then y g)
kept_then (got a q) y f g e k = rw e (k a q)
kept_then (fault why) y f g e k = tt

-- the same, where the places after x are known to be within n
kept-within : {A B : Type 0} (p n : ℕ) (x y : Field A) (f g : A → ℕ → Field B)
    → Every (λ a q. (p + 1 ≤ q) × (q ≤ n)) x → Kept x y → ((a : A) (q : ℕ) → q ≤ n → Kept (f a q) (g a q)) → Kept (and_then x f) (and_then y g)
kept-within p n (got a q) y f g h e k = rw e (k a q h.1)
kept-within p n (fault why) y f g h e k = tt

-- a value that is in range, or a fault
kept_in_range : {A : Type 0} (t : Bool) (a : A) (q : ℕ) (why : Refusal) → Kept (cond t (got a q) (fault why)) (cond t (got a q) (fault why))
kept_in_range true a q why = refl
kept_in_range false a q why = tt

-- the eight bytes at a place, all within s
pub be8-kept : (s t : List ℕ) (p : ℕ) → p + 8 ≤ length s → read_be8 (drop p (s ++ t)) ≡ read_be8 (drop p s)
be8-kept s t p h = ap read_be8 (drop-append-le p s t (omega arith)) ∙ append-be8 (drop p s) t (omega (arith, length-drop p s))

module _ (s t : List ℕ) where
  -- a byte
  pub byte_kept : (p : ℕ) → Kept (byte_at s p) (byte_at (s ++ t) p)
  byte_kept p = go (ltb p (length s)) refl
    where
      go : (b : Bool) → ltb p (length s) ≡ b → Kept (byte_at s p) (byte_at (s ++ t) p)
      go true e =
          let h : p < length s = ltb-true p (length s) e in
          rw (byte_got s p h)
          (byte_got (s ++ t) p (omega (arith, length-append s t)) ∙ ap (λ (b : ℕ). got b (p + 1)) (get_or-append s t 0 p h))
      go false e = rw (byte_short s p (ltb-false p (length s) e)) tt

  -- eight bytes
  pub fixed_kept : (p : ℕ) → Kept (fixed_at s p) (fixed_at (s ++ t) p)
  fixed_kept p = go (ltb (length s) (p + 8)) refl
    where
      go : (b : Bool) → ltb (length s) (p + 8) ≡ b → Kept (fixed_at s p) (fixed_at (s ++ t) p)
      go true e = rw (fixed_short s p (ltb-true (length s) (p + 8) e)) tt
      go false e =
          let h : p + 8 ≤ length s = ltb-false (length s) (p + 8) e in
          rw (fixed_got s p h)
          (fixed_got (s ++ t) p (omega (arith, length-append s t)) ∙ ap (λ (x : ℕ). got x (p + 8)) (be8-kept s t p h))

  -- a uvarint
  pub uvarint-kept : (p : ℕ) → Kept (uvarint_at s p) (uvarint_at (s ++ t) p)
  unfolding uvarint_at
  uvarint-kept p = go (read_uvarint (drop p s)) refl
    where
      go : (r : UvarintRead) → read_uvarint (drop p s) ≡ r → Kept (uvarint_of p r) (uvarint_of p (read_uvarint (drop p (s ++ t))))
      go (u.Value n len) e =
          let k = taken (drop p s) n len e in
          rw (drop-append-le p s t (omega (arith, length-drop p s)), append-value (drop p s) t n len e)
      go u.Short e = tt
      go u.BadVarint e = tt

  -- a varint
  pub varint-kept : (p : ℕ) → Kept (varint_at s p) (varint_at (s ++ t) p)
  unfolding varint_at
  varint-kept p = go (read_varint (drop p s)) refl
    where
      go : (r : VarintRead) → read_varint (drop p s) ≡ r → Kept (varint_of p r) (varint_of p (read_varint (drop p (s ++ t))))
      go (v.Value x len) e =
          let k = (taken-varint (drop p s) x len e).0 in
          rw (drop-append-le p s t (omega (arith, length-drop p s)), append-value-varint (drop p s) t x len e)
      go v.Short e = tt
      go v.BadVarint e = tt

  -- a string
  pub string-kept : (p : ℕ) → Kept (string_at s p) (string_at (s ++ t) p)
  unfolding string_at
  string-kept p = kept-within p (length s) (uvarint_at s p) (uvarint_at (s ++ t) p) _ _ (uvarint_ahead s p) (uvarint-kept p) (λ n q l. inside n q l (ltb (length (drop q s)) n) refl)
    where
      inside : (n q : ℕ) → q ≤ length s → (b : Bool) → ltb (length (drop q s)) n ≡ b
          → Kept {A = StringField} (cond b (fault (Short (offset p))) (got (record { start = q; bytes = take n (drop q s) }) (q + n)))
          (cond (ltb (length (drop q (s ++ t))) n) (fault (Short (offset p))) (got (record { start = q; bytes = take n (drop q (s ++ t)) }) (q + n)))
      inside n q l true e = tt
      inside n q l false e =
          let h : n ≤ length (drop q s) = ltb-false (length (drop q s)) n e in
          rw (drop-append-le q s t l, le-ltb (length (drop q s ++ t)) n (omega (arith, length-append (drop q s) t)), take-append-le n (drop q s) t h)

  -- strings in a row
  pub strings-kept : (k p : ℕ) → Kept (strings_at k s p) (strings_at k (s ++ t) p)
  unfolding strings_at
  strings-kept zero p = refl
  strings-kept (suc k) p =
      kept_then (string_at s p) (string_at (s ++ t) p) _ _ (string-kept p)
      (λ x q. kept_then (strings_at k s q) (strings_at k (s ++ t) q) _ _ (strings-kept k q) (λ xs r. refl))

  -- a list of strings
  pub list-kept : (p : ℕ) → Kept (string_list_at s p) (string_list_at (s ++ t) p)
  unfolding string_list_at
  list-kept p =
      kept_then (uvarint_at s p) (uvarint_at (s ++ t) p) _ _ (uvarint-kept p)
      (λ n q. kept_then (strings_at (2 * n) s q) (strings_at (2 * n) (s ++ t) q) _ _ (strings-kept (2 * n) q) (λ xs r. refl))

  -- a delta
  pub delta_kept : (p : ℕ) → Kept (delta_at s p) (delta_at (s ++ t) p)
  unfolding delta_at
  delta_kept p = kept_then (varint_at s p) (varint_at (s ++ t) p) _ _ (varint-kept p) (λ x q. refl)

  -- the head of a row, in a body that has its first id and first timestamp
  pub head-kept : (p : ℕ) → 17 ≤ length s → Kept (head_at s p) (head_at (s ++ t) p)
  unfolding head_at
  head-kept p h =
      rw (be8-kept s t 1 (omega arith), be8-kept s t 9 (omega arith))
      (kept_then (delta_at s p) (delta_at (s ++ t) p) _ _ (delta_kept p)
      (λ d q. kept_then (delta_at s q) (delta_at (s ++ t) q) _ _ (delta_kept q) (λ e next. refl)))

  -- a row, likewise
  pub row_kept : (p : ℕ) → 17 ≤ length s → Kept (row_at s p) (row_at (s ++ t) p)
  unfolding row_at
  row_kept p h =
      kept_then (head_at s p) (head_at (s ++ t) p) _ _ (head-kept p h)
      (λ d q. kept_then (fixed_at s q) (fixed_at (s ++ t) q) _ _ (fixed_kept q) (λ w next. refl))

  -- a number of 32 bits, signed or not
  int32_kept : (p : ℕ) → Kept (int32_at s p) (int32_at (s ++ t) p)
  unfolding int32_at
  int32_kept p = kept_then (varint_at s p) (varint_at (s ++ t) p) _ _ (varint-kept p) (λ x q. kept_in_range (ltb (mag x) (2 ^ 31)) x q _)

  uint32_kept : (p : ℕ) → Kept (uint32_at s p) (uint32_at (s ++ t) p)
  unfolding uint32_at
  uint32_kept p = kept_then (uvarint_at s p) (uvarint_at (s ++ t) p) _ _ (uvarint-kept p) (λ n q. kept_in_range (ltb n (2 ^ 32)) n q _)

  -- a count, of either kind
  count_kept : (k : BucketKind) (p : ℕ) → Kept (count_at k s p) (count_at k (s ++ t) p)
  unfolding count_at
  count_kept Whole p = uvarint-kept p
  count_kept Float p = fixed_kept p

  -- a span, and a bucket of either kind
  item_kept : (x : Element) (p : ℕ) → Kept (item_at x s p) (item_at x (s ++ t) p)
  unfolding span_at bucket_at
  item_kept element.Span p =
      kept_then (int32_at s p) (int32_at (s ++ t) p) _ _ (int32_kept p)
      (λ g q. kept_then (uint32_at s q) (uint32_at (s ++ t) q) _ _ (uint32_kept q) (λ n r. refl))
  item_kept (element.Bucket Whole) p = delta_kept p
  item_kept (element.Bucket Float) p = fixed_kept p

  -- elements in a row
  items_kept : (x : Element) (n p : ℕ) → Kept (items_at x n s p) (items_at x n (s ++ t) p)
  unfolding items_at
  items_kept x zero p = refl
  items_kept x (suc n) p =
      kept_then (item_at x s p) (item_at x (s ++ t) p) _ _ (item_kept x p)
      (λ a q. kept_then (items_at x n s q) (items_at x n (s ++ t) q) _ _ (items_kept x n q) (λ l r. refl))

  -- a list of them
  items-list-kept : (x : Element) (p : ℕ) → Kept (list_at x s p) (list_at x (s ++ t) p)
  unfolding list_at
  items-list-kept x p =
      kept_then (uvarint_at s p) (uvarint_at (s ++ t) p) _ _ (uvarint-kept p)
      (λ n q. kept_then (items_at x n s q) (items_at x n (s ++ t) q) _ _ (items_kept x n q) (λ l r. refl))

  -- both sides
  sides-kept : (x : Element) (p : ℕ) → Kept (sides_at x s p) (sides_at x (s ++ t) p)
  unfolding sides_at
  sides-kept x p =
      kept_then (list_at x s p) (list_at x (s ++ t) p) _ _ (items-list-kept x p)
      (λ a q. kept_then (list_at x s q) (list_at x (s ++ t) q) _ _ (items-list-kept x q) (λ b r. refl))

  -- the numbers of a histogram
  numbers-kept : (k : BucketKind) (p : ℕ) → Kept (numbers_at k s p) (numbers_at k (s ++ t) p)
  unfolding numbers_at
  numbers-kept k p =
      kept_then (byte_at s p) (byte_at (s ++ t) p) _ _ (byte_kept p)
      (λ hint q. kept_then (int32_at s q) (int32_at (s ++ t) q) _ _ (int32_kept q)
      (λ schema r. kept_then (fixed_at s r) (fixed_at (s ++ t) r) _ _ (fixed_kept r)
      (λ threshold u. kept_then (count_at k s u) (count_at k (s ++ t) u) _ _ (count_kept k u)
      (λ zeros v. kept_then (count_at k s v) (count_at k (s ++ t) v) _ _ (count_kept k v)
      (λ count w. kept_then (fixed_at s w) (fixed_at (s ++ t) w) _ _ (fixed_kept w) (λ sum z. refl))))))

  -- its four lists
  lists-kept : (k : BucketKind) (p : ℕ) → Kept (lists_at k s p) (lists_at k (s ++ t) p)
  unfolding lists_at
  lists-kept k p =
      kept_then (sides_at element.Span s p) (sides_at element.Span (s ++ t) p) _ _ (sides-kept element.Span p)
      (λ a q. kept_then (sides_at (element.Bucket k) s q) (sides_at (element.Bucket k) (s ++ t) q) _ _ (sides-kept (element.Bucket k) q) (λ b r. refl))

  -- a histogram, in a body that has its first id and first timestamp
  histogram-kept : (k : BucketKind) (p : ℕ) → 17 ≤ length s → Kept (histogram_at k s p) (histogram_at k (s ++ t) p)
  unfolding histogram_at
  histogram-kept k p h =
      kept_then (head_at s p) (head_at (s ++ t) p) _ _ (head-kept p h)
      (λ a q. kept_then (numbers_at k s q) (numbers_at k (s ++ t) q) _ _ (numbers-kept k q)
      (λ n r. kept_then (lists_at k s r) (lists_at k (s ++ t) r) _ _ (lists-kept k r) (λ l u. refl)))

  -- an entry of any type
  pub entry_kept : (k : BodyType) (p : ℕ) → (has_rows k ≡ true → 17 ≤ length s) → Kept (entry_at k s p) (entry_at k (s ++ t) p)
  unfolding series_at sample_at tombstone_at exemplar_at metadata_at histogram_entry_at
  entry_kept series p h =
      kept_then (fixed_at s p) (fixed_at (s ++ t) p) _ _ (fixed_kept p)
      (λ id q. kept_then (string_list_at s q) (string_list_at (s ++ t) q) _ _ (list-kept q) (λ l r. refl))
  entry_kept samples p h = kept_then (row_at s p) (row_at (s ++ t) p) _ _ (row_kept p (h refl)) (λ w r. refl)
  entry_kept tombstones p h =
      kept_then (fixed_at s p) (fixed_at (s ++ t) p) _ _ (fixed_kept p)
      (λ id q. kept_then (varint_at s q) (varint_at (s ++ t) q) _ _ (varint-kept q)
      (λ min r. kept_then (varint_at s r) (varint_at (s ++ t) r) _ _ (varint-kept r) (λ max next. refl)))
  entry_kept exemplars p h =
      kept_then (row_at s p) (row_at (s ++ t) p) _ _ (row_kept p (h refl))
      (λ w q. kept_then (string_list_at s q) (string_list_at (s ++ t) q) _ _ (list-kept q) (λ l r. refl))
  entry_kept metadata p h =
      kept_then (uvarint_at s p) (uvarint_at (s ++ t) p) _ _ (uvarint-kept p)
      (λ id q. kept_then (byte_at s q) (byte_at (s ++ t) q) _ _ (byte_kept q)
      (λ metric r. kept_then (string_list_at s r) (string_list_at (s ++ t) r) _ _ (list-kept r) (λ l next. refl)))
  entry_kept (histograms k) p h = kept_then (histogram_at k s p) (histogram_at k (s ++ t) p) _ _ (histogram-kept k p (h refl)) (λ r next. refl)
