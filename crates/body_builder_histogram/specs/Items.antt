-- A list of a histogram as its calls are given it, whatever its elements: which they are, each of
-- them, their bytes, and whether it is a BadList.
-- Assumes nothing.
use Rattle.std.specs.Prelude.{Bool, false, ◌||◌, List, ◌++◌, ℕ, get_or, pos}
use Rattle.body_format.specs.declared.Element.{Element}
use Rattle.body_format.specs.declared.Element.TheVariants as element
use Rattle.body_format.specs.Histograms.{Item, join_spans, bad_spans, list_bytes}
use Rattle.body_builder_histogram.specs.Lent.{span_of, lent_spans}
use Rattle.body_builder_histogram.specs.declared.items.Items.{Items}
use Rattle.body_builder_histogram.specs.declared.items.Items.TheVariants.{Spans, Buckets}
use Rattle.body_builder_histogram.specs.declared.items.Sides.{Sides}

abbrev pub element_of : Items → Element
element_of (Spans offsets lengths) = element.Span
element_of (Buckets kind bits) = element.Bucket kind

abbrev pub items_of : (l : Items) → List (Item (element_of l))
items_of (Spans offsets lengths) = join_spans offsets.now lengths.now
items_of (Buckets kind bits) = bits.now

abbrev pub item_of : (l : Items) → ℕ → Item (element_of l)
item_of (Spans offsets lengths) i = span_of (get_or offsets.now i (pos 0)) (get_or lengths.now i 0)
item_of (Buckets kind bits) i = get_or bits.now i 0

abbrev pub bad_of : Items → Bool
bad_of (Spans offsets lengths) = bad_spans (lent_spans offsets.now lengths.now)
bad_of (Buckets kind bits) = false

unfoldable pub bytes_of : Items → List ℕ
bytes_of l = list_bytes (element_of l) (items_of l)

-- both sides
abbrev pub bad_sides : Sides → Bool
bad_sides s = bad_of s.positive || bad_of s.negative

unfoldable pub sides_of : Sides → List ℕ
sides_of s = bytes_of s.positive ++ bytes_of s.negative
