-- The forms that the code's loops have: an element measured, elements and lists as they are
-- written.
-- Assumes nothing.
use Rattle.std.specs.Prelude.{List, [], ◌++◌, ℕ, zero, suc, length, Option, Some, None}
use Rattle.wal_types.specs.Deltas.{to_bits}
use Rattle.uvarint.specs.Uvarint.{uvarint}
use Rattle.body_format.specs.declared.BucketKind.{BucketKind}
use Rattle.body_format.specs.declared.Element.{Element}
use Rattle.body_format.specs.declared.Element.TheVariants as element
use Rattle.body_format.specs.declared.ListView.{ListView}
use Rattle.body_format.specs.declared.SidesView.{SidesView}
use Rattle.body_format.specs.declared.HistogramView.{HistogramView}
use Rattle.body_format.specs.Fields.{Field, got, fault}
use Rattle.body_format.specs.Histograms.{Item, item_at, item_bytes}
use Rattle.body_builder_histogram.specs.Front.{front_bytes}
use Rattle.byte_copy.specs.Put.{put_end}

-- the bytes of an element; none where it cannot be read
abbrev pub bytes_of : (x : Element) → Field (Item x) → List ℕ
bytes_of x (got a q) = item_bytes x a
bytes_of x (fault why) = []

-- the place after it, or the same again
abbrev pub after_of : {A : Type 0} → ℕ → Field A → ℕ
after_of p (got a q) = q
after_of p (fault why) = p

-- the bytes of an element, and the place after it; or it cannot be read
abbrev pub measured_of : (x : Element) → Field (Item x) → Option (ℕ × ℕ)
measured_of x (got a q) = Some (length (item_bytes x a), q)
measured_of x (fault why) = None

-- the places after an element that is put at a place of b, and after the one that was read
abbrev pub copied_of : (x : Element) → List ℕ → ℕ → Field (Item x) → Option (ℕ × ℕ)
copied_of x b place (got a q) = Some (put_end b place (item_bytes x a), q)
copied_of x b place (fault why) = None

-- the bytes of n elements in a row, from place p of s on
unfoldable pub items_from : Element → ℕ → List ℕ → ℕ → List ℕ
items_from x zero s p = []
items_from x (suc n) s p = bytes_of x (item_at x s p) ++ items_from x n s (after_of p (item_at x s p))

-- a list, by its count and the place of its first element
unfoldable pub list_from : Element → List ℕ → ListView → List ℕ
list_from x s v = uvarint v.count ++ items_from x v.count s v.first.0

-- the lists of both sides, and all four
unfoldable pub sides_from : Element → List ℕ → SidesView → List ℕ
sides_from x s v = list_from x s v.positive ++ list_from x s v.negative

unfoldable pub lists_from : BucketKind → List ℕ → SidesView → SidesView → List ℕ
lists_from k s spans buckets = sides_from element.Span s spans ++ sides_from (element.Bucket k) s buckets

-- a histogram of s by its view, written after the u bytes used of the body in buffer b
unfoldable pub view_bytes : List ℕ → ℕ → BucketKind → List ℕ → HistogramView → List ℕ
view_bytes b u k s v =
    front_bytes b u k v.id.0 (to_bits v.time.0) v.numbers ++ lists_from k s v.spans v.buckets
