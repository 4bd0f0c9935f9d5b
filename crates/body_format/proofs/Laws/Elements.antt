-- Laws of a histogram's lists: each element is read at its place, the first at the place that the
-- histogram's answer gives, each later one at the place after the one before.
-- Assumes nothing.
use Rattle.std.proofs.Common.{◌≡◌, refl, length, List, ◌∷◌, ℕ, zero, suc, ◌+◌, ◌≤◌, ap, ◌∙◌, arith, le-ltb, ne_eqb}
use Rattle.wal_types.specs.Terms.{offset}
use Rattle.body_format.specs.declared.BucketKind.{BucketKind}
use Rattle.body_format.specs.declared.Element.{Element}
use Rattle.body_format.specs.declared.Element.TheVariants as element
use Rattle.body_format.specs.Results.EntryPlace.{At}
use Rattle.body_format.specs.Fields.{Field, got, fault, uvarint_at}
use Rattle.body_format.specs.Heads.{head_at}
use Rattle.body_format.specs.Histograms.{Span, span_at, bucket_at, Item, item_at, items_at, Listed, list_at, Sides, sides_at, numbers_at, Lists, map_lists, lists_at, Histogram, histogram_at, bare, firsts}
use Rattle.body_format.specs.Entries.{known, histograms, body_type_of, histogram_entry}
use Rattle.body_format.specs.Reading.{entry_place, by_bucket_kind, histogram_there, answer_histogram, read_histogram, answer_span, read_span, answer_bucket, read_bucket}
use Rattle.body_format.specs.Calls.{InTurn, span_found, bucket_found, ListsRead, InFull, body_calls}
use Rattle.body_format.proofs.Laws.Bounds.{Every, every_then, uvarint_ahead, item_ahead}

any : {A : Type 0} (x : Field A) → Every (λ a q. Unit {0}) x
any (got a q) = tt
any (fault why) = tt

-- ---- any elements, by a call that reads them

module _ (x : Element) (s : List ℕ) {R : Type 0} (read : ℕ → R) (found : Item x → ℕ → R) where
  -- at every place after the tag the call finds what is there
  abbrev pub Finds : Type 0
  Finds = (p : ℕ) → 1 ≤ p → Every (λ a q. (read p ≡ found a q) × (p + 1 ≤ q)) (item_at x s p)

  module _ (finds : Finds) where
    -- elements in a row
    items-walk : (n p : ℕ) → 1 ≤ p → Every (λ (l : List (Item x)) r. InTurn read found p l) (items_at x n s p)
    unfolding items_at
    items-walk zero p h = tt
    items-walk (suc n) p h =
        every_then _ _ (item_at x s p) _ (finds p h)
        (λ a q l. every_then (λ (r : List (Item x)) t. InTurn read found q r) _ (items_at x n s q) _ (items-walk n q (omega arith)) (λ r t w. (q, l.0, w)))

    -- a list
    list-walk : (p : ℕ) → Every (λ (l : Listed (Item x)) r. InTurn read found l.first l.items) (list_at x s p)
    unfolding list_at
    list-walk p =
        every_then _ _ (uvarint_at s p) _ (uvarint_ahead s p)
        (λ n q l. every_then (λ (r : List (Item x)) t. InTurn read found q r) _ (items_at x n s q) _ (items-walk n q (omega arith)) (λ r t w. w))

    -- both sides
    pub sides-walk : (p : ℕ)
        → Every (λ (l : Sides (Listed (Item x))) r. InTurn read found l.positive.first l.positive.items × InTurn read found l.negative.first l.negative.items)
        (sides_at x s p)
    unfolding sides_at
    sides-walk p =
        every_then _ _ (list_at x s p) _ (list-walk p)
        (λ a q w. every_then _ _ (list_at x s q) _ (list-walk q) (λ b r v. (w, v)))

-- ---- in a body of histograms

module _ (b : ℕ) (s : List ℕ) (k : BucketKind) (type : body_type_of b ≡ known (histograms k)) where
  -- a span, and a bucket, at a place within the body
  span-at : (p : ℕ) → 1 ≤ p → p ≤ length (b ∷ s) → read_span (b ∷ s) p ≡ answer_span (span_at (b ∷ s) p)
  unfolding read_span by_bucket_kind
  span-at p h l = rw (type, ne_eqb p 0 (omega arith), le-ltb (length (b ∷ s)) p l)

  bucket-at : (p : ℕ) → 1 ≤ p → p ≤ length (b ∷ s) → read_bucket (b ∷ s) p ≡ answer_bucket (bucket_at k (b ∷ s) p)
  unfolding read_bucket by_bucket_kind
  bucket-at p h l = rw (type, ne_eqb p 0 (omega arith), le-ltb (length (b ∷ s)) p l)

  finds-spans : Finds element.Span (b ∷ s) (read_span (b ∷ s)) span_found
  finds-spans p h = go (span_at (b ∷ s) p) refl (item_ahead (b ∷ s) element.Span p)
    where
      go : (x : Field Span) → span_at (b ∷ s) p ≡ x → Every (λ a q. (p + 1 ≤ q) × (q ≤ length (b ∷ s))) x
          → Every (λ a q. (read_span (b ∷ s) p ≡ span_found a q) × (p + 1 ≤ q)) x
      go (got a q) e (l, m) = (span-at p h (omega arith) ∙ ap answer_span e, l)
      go (fault why) e l = tt

  finds-buckets : Finds (element.Bucket k) (b ∷ s) (read_bucket (b ∷ s)) bucket_found
  finds-buckets p h = go (bucket_at k (b ∷ s) p) refl (item_ahead (b ∷ s) (element.Bucket k) p)
    where
      go : (x : Field ℕ) → bucket_at k (b ∷ s) p ≡ x → Every (λ a q. (p + 1 ≤ q) × (q ≤ length (b ∷ s))) x
          → Every (λ v q. (read_bucket (b ∷ s) p ≡ bucket_found v q) × (p + 1 ≤ q)) x
      go (got a q) e (l, m) = (bucket-at p h (omega arith) ∙ ap answer_bucket e, l)
      go (fault why) e l = tt

  -- the four lists
  lists-walk : (p : ℕ)
      → Every (λ (l : Lists (Listed Span) (Listed ℕ)) r. ListsRead read_span read_bucket (b ∷ s)
      (map_lists (λ (a : Listed Span). a.first) (λ (v : Listed ℕ). v.first) l)
      (map_lists (λ (a : Listed Span). a.items) (λ (v : Listed ℕ). v.items) l)) (lists_at k (b ∷ s) p)
  unfolding lists_at
  lists-walk p =
      every_then _ _ (sides_at element.Span (b ∷ s) p) _ (sides-walk element.Span (b ∷ s) (read_span (b ∷ s)) span_found finds-spans p)
      (λ a q w. every_then _ _ (sides_at (element.Bucket k) (b ∷ s) q) _ (sides-walk (element.Bucket k) (b ∷ s) (read_bucket (b ∷ s)) bucket_found finds-buckets q)
      (λ u r v. record { positive-spans = w.0; negative-spans = w.1; positive-buckets = v.0; negative-buckets = v.1 }))

  walked : (p : ℕ) → Every (λ h q. ListsRead read_span read_bucket (b ∷ s) (firsts h) (bare h).lists) (histogram_at k (b ∷ s) p)
  unfolding histogram_at
  walked p =
      every_then _ _ (head_at (b ∷ s) p) _ (any (head_at (b ∷ s) p))
      (λ a q i. every_then _ _ (numbers_at k (b ∷ s) q) _ (any (numbers_at k (b ∷ s) q))
      (λ n r j. every_then _ _ (lists_at k (b ∷ s) r) _ (lists-walk r) (λ l t w. w)))

  -- a histogram at a place: where the entry of that place is
  found-there : (p : ℕ) → read_histogram (b ∷ s) p ≡ histogram_there k (b ∷ s) (entry_place (histograms k) (b ∷ s) p)
  unfolding read_histogram by_bucket_kind
  found-there p = rw type

  -- the histogram at the place where it is, and its lists
  pub histogram_in_full : (p from : ℕ) → entry_place (histograms k) (b ∷ s) p ≡ At (offset from)
      → Every (λ h q. InFull body_calls (b ∷ s) p (histogram_entry k (bare h)) q) (histogram_at k (b ∷ s) from)
  histogram_in_full p from e = go (histogram_at k (b ∷ s) from) refl (walked from)
    where
      there : read_histogram (b ∷ s) p ≡ answer_histogram k (histogram_at k (b ∷ s) from)
      there = found-there p ∙ ap (histogram_there k (b ∷ s)) e

      go : (x : Field (Histogram (Listed Span) (Listed ℕ))) → histogram_at k (b ∷ s) from ≡ x
          → Every (λ h q. ListsRead read_span read_bucket (b ∷ s) (firsts h) (bare h).lists) x
          → Every (λ h q. InFull body_calls (b ∷ s) p (histogram_entry k (bare h)) q) x
      go (got h q) i w = (firsts h, there ∙ ap (answer_histogram k) i, w)
      go (fault why) i w = tt
