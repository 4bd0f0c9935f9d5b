-- The lists of a histogram one element at a time, in the code's forms.
use Rattle.std.specs.Prelude.{◌≡◌, refl, List, ◌∷◌, ℕ, zero, suc, ◌-◌, ◌<◌, ℤ, length}
use Rattle.std.proofs.Common.{sym, ap, ◌∙◌, arith}
use Rattle.wal_types.specs.declared.Refusal.{Refusal}
use Rattle.wal_types.specs.declared.Offset.{Offset}
use Rattle.wal_types.specs.Terms.{offset}
use Rattle.body_format.specs.declared.BucketKind.{BucketKind}
use Rattle.body_format.specs.declared.Element.{Element}
use Rattle.body_format.specs.declared.Element.TheVariants as element
use Rattle.body_format.specs.declared.ListView.{ListView}
use Rattle.body_format.specs.declared.SidesView.{SidesView}
use Rattle.body_format.specs.Results.SpanAnswer.{SpanAnswer}
use Rattle.body_format.specs.Results.SpanAnswer as span
use Rattle.body_format.specs.Fields.{Field, got, fault, and_then, uvarint_at}
use Rattle.body_format.specs.Histograms.{bucket_at, Span, span_at, Item, item_at, items_at, Listed, list_at, Sides, sides_at, lists_at}
use Rattle.body_format.specs.Reading.{list_view, answer_span}
use Rattle.body_format.proofs.Laws.Histograms.{items-counted}
use Rattle.body_fields.specs.Results.Place.{Place}
use Rattle.body_fields.specs.Results.Place.{At, Fault}
use Rattle.body_fields.specs.Ends.{end_of, onward}
use Rattle.body_fields.specs.Laws.{never}
use Rattle.body_fields.specs.EndLaws.{end-one}
use Rattle.body_histogram.specs.Results.ListRead.{ListRead}
use Rattle.body_histogram.specs.Results.ListRead as list
use Rattle.body_histogram.specs.Results.SidesRead.{SidesRead}
use Rattle.body_histogram.specs.Results.SidesRead as sides
use Rattle.body_histogram.specs.Results.ListsRead as lists
use Rattle.body_histogram.specs.Forms.{list_read, viewed, sides_read, lists_read}

-- ---- where an element ends

module _ (s : List ℕ) (p : ℕ) where
  pub span-ends : {r : SpanAnswer} {g : ℤ} {n : ℕ} {q : Offset} → r ≡ answer_span (span_at s p) → r ≡ span.Found g n q → At q.0 ≡ end_of (span_at s p)
  span-ends {r} {g} {n} {q} e h = go (span_at s p) e
    where
      go : (f : Field Span) → r ≡ answer_span f → At q.0 ≡ end_of f
      go (got a t) i =
          let v : ◌≡◌ {A = ℤ × ℕ × Offset} (g, n, q) (a.gap, a.size, offset t) = cc in
          ap (λ (w : ℤ × ℕ × Offset). At w.2.0) v
      go (fault w) i = never cc

  pub span_stops : {r : SpanAnswer} {why : Refusal} → r ≡ answer_span (span_at s p) → r ≡ span.Refused why → Fault why ≡ end_of (span_at s p)
  span_stops {r} {why} e h = go (span_at s p) e
    where
      go : (f : Field Span) → r ≡ answer_span f → Fault why ≡ end_of f
      go (got a t) i = never cc
      go (fault w) i = cc

  -- an element of either sort
  pub item_end-span : (x : Element) → x ≡ element.Span → end_of (span_at s p) ≡ end_of (item_at x s p)
  item_end-span x e = rw e

  pub item_end-bucket : (x : Element) {k : BucketKind} → x ≡ element.Bucket k → end_of (bucket_at k s p) ≡ end_of (item_at x s p)
  item_end-bucket x e = rw e

-- ---- elements in a row

module _ (x : Element) (s : List ℕ) where
  items-step : (n p : ℕ) → 0 < n → end_of (items_at x n s p) ≡ onward (end_of (item_at x s p)) (λ q. end_of (items_at x (n - 1) s q))
  unfolding items_at
  items-step zero p h = absurd (omega arith)
  items-step (suc n) p h = let m : suc n - 1 ≡ n = omega arith in rw m (go (item_at x s p))
    where
      go : (f : Field (Item x))
          → end_of (and_then f (λ a q. and_then (items_at x n s q) (λ l r. got (a ∷ l) r))) ≡ onward (end_of f) (λ q. end_of (items_at x n s q))
      go (got a q) = end-one (items_at x n s q) (λ l r. a ∷ l)
      go (fault why) = refl

  -- after one element, or at its fault, what is left makes the whole
  abbrev pub Turned : ℕ → ℕ → ℕ → Place → Type 0
  Turned first count left r = onward r (λ q. end_of (items_at x (left - 1) s q)) ≡ end_of (items_at x count s first)

  pub turn : (first count at left : ℕ) → end_of (items_at x left s at) ≡ end_of (items_at x count s first) → 0 < left
      → (r : Place) → r ≡ end_of (item_at x s at) → Turned first count left r
  turn first count at left i h r e = rw e (sym (items-step left at h) ∙ i)

  -- no element is left
  pub turned-all : (at : ℕ) → At at ≡ end_of (items_at x 0 s at)
  unfolding items_at
  turned-all at = refl

  -- ---- a list: its count, and then its elements

  pub list_1 : (p : ℕ) {why : Refusal} → uvarint_at s p ≡ fault why → list.Fault why ≡ list_read (list_at x s p)
  unfolding list_at
  list_1 p h = rw h

  pub list_2 : (p : ℕ) {n q : ℕ} {why : Refusal} → uvarint_at s p ≡ got n q → Fault why ≡ end_of (items_at x n s q)
      → list.Fault why ≡ list_read (list_at x s p)
  unfolding list_at
  list_2 p {n} {q} {why} h i = rw h (go (items_at x n s q) i)
    where
      go : (f : Field (List (Item x))) → Fault why ≡ end_of f → list.Fault why ≡ list_read (and_then f (λ l r. got (record { first = q; items = l }) r))
      go (got l r) j = never cc
      go (fault w) j = cc

  pub list_all : (p : ℕ) {n q r : ℕ} → uvarint_at s p ≡ got n q → At r ≡ end_of (items_at x n s q)
      → list.Got (record { count = n; first = offset q }) r ≡ list_read (list_at x s p)
  unfolding list_at
  list_all p {n} {q} {r} h i = rw h (go (items_at x n s q) refl i)
    where
      go : (f : Field (List (Item x))) → items_at x n s q ≡ f → At r ≡ end_of f
          → list.Got (record { count = n; first = offset q }) r ≡ list_read (and_then f (λ l t. got (record { first = q; items = l }) t))
      go (got l t) e j =
          let m : length l ≡ n = items-counted x n s q l t e in
          let z : r ≡ t = cc in
          rw (m, z)
      go (fault w) e j = never cc

-- ---- both sides, and the four lists

-- what an answer says of the reading
pub list-got : {A : Type 0} (f : Field (Listed A)) (r : ListRead) {v : ListView} {q : ℕ} → r ≡ list_read f → r ≡ list.Got v q
    → (l : Listed A) × (f ≡ got l q) × (list_view l.items l.first ≡ v)
list-got (got l p) r {v} {q} e g =
    let z : ◌≡◌ {A = ListView × ℕ} (list_view l.items l.first, p) (v, q) = cc in
    (l, ap (λ (w : ListView × ℕ). got l w.1) z, ap (λ (w : ListView × ℕ). w.0) z)
list-got (fault w) r e g = never cc

pub list-fault : {A : Type 0} (f : Field (Listed A)) (r : ListRead) {why : Refusal} → r ≡ list_read f → r ≡ list.Fault why → f ≡ fault why
list-fault (got l p) r e g = never cc
list-fault (fault w) r e g = cc

pub sides-got : {A : Type 0} (f : Field (Sides (Listed A))) (r : SidesRead) {v : SidesView} {q : ℕ} → r ≡ sides_read f → r ≡ sides.Got v q
    → (l : Sides (Listed A)) × (f ≡ got l q) × (viewed l ≡ v)
sides-got (got l p) r {v} {q} e g =
    let z : ◌≡◌ {A = SidesView × ℕ} (viewed l, p) (v, q) = cc in
    (l, ap (λ (w : SidesView × ℕ). got l w.1) z, ap (λ (w : SidesView × ℕ). w.0) z)
sides-got (fault w) r e g = never cc

pub sides-fault : {A : Type 0} (f : Field (Sides (Listed A))) (r : SidesRead) {why : Refusal} → r ≡ sides_read f → r ≡ sides.Fault why → f ≡ fault why
sides-fault (got l p) r e g = never cc
sides-fault (fault w) r e g = cc

module _ (x : Element) (s : List ℕ) (p : ℕ) where
  pub sides_1 : {why : Refusal} → list_at x s p ≡ fault why → sides.Fault why ≡ sides_read (sides_at x s p)
  unfolding sides_at
  sides_1 h = rw h

  pub sides_2 : {v : ListView} {q : ℕ} {why : Refusal} → (l : Listed (Item x)) × (list_at x s p ≡ got l q) × (list_view l.items l.first ≡ v)
      → list_at x s q ≡ fault why → sides.Fault why ≡ sides_read (sides_at x s p)
  unfolding sides_at
  sides_2 (l, h, a) i = rw (h, i)

  pub sides_all : {v w : ListView} {q r : ℕ} → (l : Listed (Item x)) × (list_at x s p ≡ got l q) × (list_view l.items l.first ≡ v)
      → (m : Listed (Item x)) × (list_at x s q ≡ got m r) × (list_view m.items m.first ≡ w)
      → sides.Got (record { positive = v; negative = w }) r ≡ sides_read (sides_at x s p)
  unfolding sides_at
  sides_all (l, h, a) (m, i, b) = rw (h, i, ← a, ← b)

module _ (k : BucketKind) (s : List ℕ) (p : ℕ) where
  pub lists_1 : {why : Refusal} → sides_at element.Span s p ≡ fault why → lists.Fault why ≡ lists_read (lists_at k s p)
  unfolding lists_at
  lists_1 h = rw h

  pub lists_2 : {v : SidesView} {q : ℕ} {why : Refusal} → (l : Sides (Listed Span)) × (sides_at element.Span s p ≡ got l q) × (viewed l ≡ v)
      → sides_at (element.Bucket k) s q ≡ fault why → lists.Fault why ≡ lists_read (lists_at k s p)
  unfolding lists_at
  lists_2 (l, h, a) i = rw (h, i)

  pub lists-all : {v w : SidesView} {q r : ℕ} → (l : Sides (Listed Span)) × (sides_at element.Span s p ≡ got l q) × (viewed l ≡ v)
      → (m : Sides (Listed ℕ)) × (sides_at (element.Bucket k) s q ≡ got m r) × (viewed m ≡ w)
      → lists.Got v w r ≡ lists_read (lists_at k s p)
  unfolding lists_at
  lists-all (l, h, a) (m, i, b) = rw (h, i, ← a, ← b)
