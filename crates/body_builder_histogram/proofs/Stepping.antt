-- A list of a histogram as it is lent: by its kind, and element by element.
use Rattle.std.proofs.Common.{◌≡◌, ◌∙◌, ◌<◌, ◌+◌, ◌∷◌, List, false, drop, get_or, length, ℕ, ℤ, pos, ap, arith, sym}
use Rattle.std.specs.Borrow.{Bor}
use Rattle.body_format.specs.declared.BucketKind.{BucketKind}
use Rattle.body_format.specs.Histograms.{item_bytes, span_bytes, bucket_bytes}
use Rattle.body_builder_histogram.specs.declared.items.Items.{Items}
use Rattle.body_builder_histogram.specs.declared.items.Items.TheVariants.{Spans, Buckets}
use Rattle.body_builder_histogram.specs.Items.{element_of, items_of, item_of, bad_of}
use Rattle.body_builder_histogram.specs.Lent.{lent_spans, span_of}
use Rattle.body_builder_histogram.proofs.Laying.{good-spans, length-spans, span-step, bucket-step}

pub items-step : (l : Items) (i : ℕ) → bad_of l ≡ false → i < length (items_of l) → drop i (items_of l) ≡ item_of l i ∷ drop (i + 1) (items_of l)
items-step (Spans offsets lengths) i h k =
    let e = good-spans (lent_spans offsets.now lengths.now) h in
    span-step offsets.now lengths.now i e (omega (arith, k, length-spans offsets.now lengths.now e))
items-step (Buckets kind bits) i h k = bucket-step bits.now i k

module _ (l : Items) (offsets : Bor (List ℤ)) (lengths : Bor (List ℕ)) (e : l ≡ Spans offsets lengths) where
  pub spans-good : bad_of l ≡ false → length offsets.now ≡ length lengths.now
  spans-good h = good-spans (lent_spans offsets.now lengths.now) (sym (ap bad_of e) ∙ h)

  pub spans-count : bad_of l ≡ false → length lengths.now ≡ length (items_of l)
  spans-count h = sym (ap (λ (m : Items). length (items_of m)) e ∙ length-spans offsets.now lengths.now (spans-good h))

  -- the bytes of a span that was read
  pub spans-bytes : (i : ℕ) (g : ℤ) (n : ℕ) → g ≡ get_or offsets.now i (pos 0) → n ≡ get_or lengths.now i 0
      → span_bytes (span_of g n) ≡ item_bytes (element_of l) (item_of l i)
  spans-bytes i g n h k = rw (h, k) (sym (ap (λ (m : Items). item_bytes (element_of m) (item_of m i)) e))

module _ (l : Items) (kind : BucketKind) (bits : Bor (List ℕ)) (e : l ≡ Buckets kind bits) where
  pub buckets-count : length bits.now ≡ length (items_of l)
  buckets-count = sym (ap (λ (m : Items). length (items_of m)) e)

  pub buckets-bytes : (i : ℕ) → bucket_bytes kind (get_or bits.now i 0) ≡ item_bytes (element_of l) (item_of l i)
  buckets-bytes i = sym (ap (λ (m : Items). item_bytes (element_of m) (item_of m i)) e)
