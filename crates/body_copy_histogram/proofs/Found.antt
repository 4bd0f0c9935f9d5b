-- A histogram that was read in another body: what is written of its view is what the format writes
-- of the entry, and its addition.
use Rattle.std.proofs.Common.{◌≡◌, refl, sym, ap, ap₂, ◌∙◌, false, List, ◌++◌, append_assoc, ℕ, zero, suc, length}
use Rattle.std.specs.Prelude.{Option, Some, None, Err, ok_or}
use Rattle.wal_types.specs.declared.Refusal.{Refusal}
use Rattle.wal_types.specs.declared.Refusal.TheVariants.{BadPlace}
use Rattle.wal_types.specs.Deltas.{to_bits}
use Rattle.uvarint.specs.Uvarint.{uvarint}
use Rattle.body_format.specs.declared.BucketKind.{BucketKind}
use Rattle.body_format.specs.declared.Element.{Element}
use Rattle.body_format.specs.declared.Element.TheVariants as element
use Rattle.body_format.specs.Results.EntryPlace.{EntryPlace}
use Rattle.body_format.specs.Results.EntryPlace as place
use Rattle.body_format.specs.declared.HistogramView.{HistogramView}
use Rattle.body_format.specs.Results.HistogramAnswer.{HistogramAnswer}
use Rattle.body_format.specs.Results.HistogramAnswer as histogram
use Rattle.body_format.specs.Fields.{Field, got, fault, and_then, uvarint_at}
use Rattle.body_format.specs.Heads.{head_at, head_bytes}
use Rattle.body_format.specs.Histograms.{Span, Item, item_at, items_at, items_bytes, Listed, list_at, list_bytes, Sides, sides_at, sides_bytes, map_sides, lists_at, lists_bytes, numbers_at, numbers_bytes, Histogram, histogram_at, histogram_bytes, bare, firsts}
use Rattle.body_format.specs.Entries.{histograms, type_byte, Entry, histogram_entry, body_type_for, Placed, histogram_entry_at, entry_at}
use Rattle.body_format.specs.Reading.{entry_place, list_view, sides_view, histogram_view, answer_histogram, histogram_there}
use Rattle.body_format.specs.Building.{entry_bytes, add, add_bytes}
use Rattle.body_format.proofs.Laws.Bounds.{Every, every_then, of_got}
use Rattle.body_format.proofs.Laws.Histograms.{items-counted}
use Rattle.body_fields.specs.Laws.{never}
use Rattle.body_builder.specs.Results.Added.{Refused}
use Rattle.body_builder.specs.Answers.{added_of}
use Rattle.body_builder_histogram.specs.Front.{front_bytes}
use Rattle.body_copy_histogram.specs.Found.{placed_there, entry_found, adding_found}
use Rattle.body_copy_histogram.specs.Forms.{bytes_of, after_of, items_from, list_from, sides_from, lists_from, view_bytes}

itself : {A : Type 0} (f : Field A) → Every (λ a q. f ≡ got a q) f
itself (got a q) = refl
itself (fault why) = tt

any : {A : Type 0} (f : Field A) → Every (λ a q. Unit {0}) f
any (got a q) = tt
any (fault why) = tt

-- ---- what is read is written as the format says

module _ (x : Element) (s : List ℕ) where
  items-same : (n p : ℕ) → Every (λ (l : List (Item x)) q. items_from x n s p ≡ items_bytes x l) (items_at x n s p)
  unfolding items_at items_from items_bytes
  items-same zero p = refl
  items-same (suc n) p =
      every_then (λ a q. item_at x s p ≡ got a q) _ (item_at x s p) _ (itself (item_at x s p))
      (λ a q e. every_then (λ (l : List (Item x)) r. items_from x n s q ≡ items_bytes x l) _ (items_at x n s q) _ (items-same n q)
      (λ l r w. ap (λ (f : Field (Item x)). bytes_of x f ++ items_from x n s (after_of p f)) e ∙ ap (λ (m : List ℕ). bytes_of x (got a q) ++ m) w))

  items-told : (n p : ℕ) (l : List (Item x)) (q : ℕ) → items_at x n s p ≡ got l q → items_from x (length l) s p ≡ items_bytes x l
  items-told n p l q e =
      ap (λ (m : ℕ). items_from x m s p) (items-counted x n s p l q e)
      ∙ of_got (λ (k : List (Item x)) r. items_from x n s p ≡ items_bytes x k) (items_at x n s p) l q (items-same n p) e

  list_same : (p : ℕ) → Every (λ (a : Listed (Item x)) q. list_from x s (list_view a.items a.first) ≡ list_bytes x a.items) (list_at x s p)
  unfolding list_at list_from list_bytes
  list_same p =
      every_then _ _ (uvarint_at s p) _ (any (uvarint_at s p))
      (λ n q t. every_then (λ (l : List (Item x)) r. items_at x n s q ≡ got l r) _ (items_at x n s q) _ (itself (items_at x n s q))
      (λ l r e. ap (λ (m : List ℕ). uvarint (length l) ++ m) (items-told n q l r e)))

  sides-same : (p : ℕ)
      → Every (λ (a : Sides (Listed (Item x))) q.
      sides_from x s (sides_view (map_sides (λ (l : Listed (Item x)). l.items) a) (map_sides (λ (l : Listed (Item x)). l.first) a))
      ≡ sides_bytes x (map_sides (λ (l : Listed (Item x)). l.items) a)) (sides_at x s p)
  unfolding sides_at sides_from sides_bytes
  sides-same p =
      every_then _ _ (list_at x s p) _ (list_same p)
      (λ a q w. every_then _ _ (list_at x s q) _ (list_same q) (λ b r v. ap₂ (λ (l m : List ℕ). l ++ m) w v))

-- the lists of a histogram, by its view
abbrev ListsSame : BucketKind → List ℕ → HistogramView → Histogram (List Span) (List ℕ) → Type 0
ListsSame k s v h = lists_from k s v.spans v.buckets ≡ lists_bytes k h.lists

lists-same : (k : BucketKind) (s : List ℕ) (p : ℕ)
    → Every (λ (h : Histogram (Listed Span) (Listed ℕ)) q. ListsSame k s (histogram_view k (bare h) (firsts h) q) (bare h)) (histogram_at k s p)
unfolding histogram_at lists_at lists_from lists_bytes
lists-same k s p =
    every_then _ _ (head_at s p) _ (any (head_at s p))
    (λ h q t. every_then _ _ (numbers_at k s q) _ (any (numbers_at k s q))
    (λ n r t. every_then _ _ (and_then (sides_at element.Span s r) _) _
    (every_then _ _ (sides_at element.Span s r) _ (sides-same element.Span s r)
    (λ a u w. every_then _ _ (sides_at (element.Bucket k) s u) _ (sides-same (element.Bucket k) s u) (λ b z v. ap₂ (λ (l m : List ℕ). l ++ m) w v)))
    (λ l z w. w)))

-- the whole of it
view-same : (b : List ℕ) (u : ℕ) (k : BucketKind) (s : List ℕ) (h : Histogram (List Span) (List ℕ)) (v : HistogramView)
    → v.id.0 ≡ h.head.id → v.time.0 ≡ h.head.time → v.numbers ≡ h.numbers → ListsSame k s v h
    → entry_bytes b u (histogram_entry k h) ≡ view_bytes b u k s v
unfolding entry_bytes histogram_bytes view_bytes front_bytes
view-same b u k s h v e f g l =
    rw (e, f, g, l) (sym (append_assoc (head_bytes b u h.head.id (to_bits h.head.time)) (numbers_bytes k h.numbers) (lists_bytes k h.lists)))

-- ---- the addition of what is found

-- an entry that has the view's tag and bytes; its addition is that of the entry found
pub record Taken (b : List ℕ) (t u : ℕ) (k : BucketKind) (s : List ℕ) (v : HistogramView) (f : Field Placed) : Type 0 where
  pub entry : Entry
  pub tag : v.tag ≡ type_byte (body_type_for entry)
  pub bytes : entry_bytes b u entry ≡ view_bytes b u k s v
  pub outcome : (adding_found b t u f).outcome ≡ add b t u entry false
  pub buffer : (adding_found b t u f).buffer ≡ add_bytes (add b t u entry false) b u entry

module _ (b : List ℕ) (t u : ℕ) (k : BucketKind) (s : List ℕ) where
  taken_at : (p : ℕ) (f : Field (Histogram (Listed Span) (Listed ℕ))) → histogram_at k s p ≡ f → (v : HistogramView)
      → answer_histogram k f ≡ histogram.Found v → Taken b t u k s v (entry_at (histograms k) s p)
  unfolding histogram_entry_at
  taken_at p (got h q) e v g =
      let same : histogram_view k (bare h) (firsts h) q ≡ v = cc in
      let found : entry_at (histograms k) s p ≡ got (record { entry = histogram_entry k (bare h); first = q }) q =
      ap (λ (x : Field (Histogram (Listed Span) (Listed ℕ))). and_then x (λ a next. got (record { entry = histogram_entry k (bare a); first = next }) next)) e in
      let lists = of_got (λ (a : Histogram (Listed Span) (Listed ℕ)) r. ListsSame k s (histogram_view k (bare a) (firsts a) r) (bare a)) (histogram_at k s p) h q (lists-same k s p) e in
      rw (← same)
      (record {
        entry = histogram_entry k (bare h);
        tag = refl;
        bytes = view-same b u k s (bare h) (histogram_view k (bare h) (firsts h) q) refl refl refl lists;
        outcome = ap (λ (x : Field Placed). (adding_found b t u x).outcome) found;
        buffer = ap (λ (x : Field Placed). (adding_found b t u x).buffer) found;
      })
  taken_at p (fault why) e v g = never cc

  pub taken : (p : ℕ) (r : HistogramAnswer) (v : HistogramView) → r ≡ histogram_there k s (entry_place (histograms k) s p) → r ≡ histogram.Found v
      → Taken b t u k s v (entry_found (histograms k) s p)
  taken p r v e g = go (entry_place (histograms k) s p) (sym e ∙ g)
    where
      go : (l : EntryPlace) → histogram_there k s l ≡ histogram.Found v → Taken b t u k s v (placed_there (histograms k) s l)
      go (place.At q) h = taken_at q.0 (histogram_at k s q.0) refl v h
      go place.End h = never cc
      go (place.Refused why) h = never cc

  -- where there is none, its refusal
  abbrev Not : Refusal → Field Placed → Type 0
  Not why f = (Refused why ≡ added_of t (adding_found b t u f).outcome) × (b ≡ (adding_found b t u f).buffer)

  not_at : (p : ℕ) (f : Field (Histogram (Listed Span) (Listed ℕ))) → histogram_at k s p ≡ f → (why : Refusal)
      → answer_histogram k f ≡ histogram.Refused why → Not why (entry_at (histograms k) s p)
  unfolding histogram_entry_at
  not_at p (got h q) e why g = never cc
  not_at p (fault w) e why g =
      let same : w ≡ why = cc in
      let found : entry_at (histograms k) s p ≡ fault why =
      ap (λ (x : Field (Histogram (Listed Span) (Listed ℕ))). and_then x (λ a next. got (record { entry = histogram_entry k (bare a); first = next }) next)) e
      ∙ ap fault same in
      (ap (λ (x : Field Placed). added_of t (adding_found b t u x).outcome) (sym found), ap (λ (x : Field Placed). (adding_found b t u x).buffer) (sym found))

  pub not_read : (p : ℕ) (r : HistogramAnswer) (why : Refusal) → r ≡ histogram_there k s (entry_place (histograms k) s p) → r ≡ histogram.Refused why
      → Not why (entry_found (histograms k) s p)
  not_read p r why e g = go (entry_place (histograms k) s p) (sym e ∙ g)
    where
      go : (l : EntryPlace) → histogram_there k s l ≡ histogram.Refused why → Not why (placed_there (histograms k) s l)
      go (place.At q) h = not_at q.0 (histogram_at k s q.0) refl why h
      go place.End h = never cc
      go (place.Refused w) h = let same : w ≡ why = cc in rw same (refl, refl)

  pub not_there : (p : ℕ) (r : HistogramAnswer) → r ≡ histogram_there k s (entry_place (histograms k) s p) → r ≡ histogram.End
      → Not BadPlace (entry_found (histograms k) s p)
  not_there p r e g = go (entry_place (histograms k) s p) (sym e ∙ g)
    where
      go : (l : EntryPlace) → histogram_there k s l ≡ histogram.End → Not BadPlace (placed_there (histograms k) s l)
      go (place.At q) h = at (histogram_at k s q.0) h
        where
          at : (f : Field (Histogram (Listed Span) (Listed ℕ))) → answer_histogram k f ≡ histogram.End → Not BadPlace (placed_there (histograms k) s (place.At q))
          at (got a r) z = never cc
          at (fault why) z = never cc
      go place.End h = (refl, refl)
      go (place.Refused w) h = never cc

-- the plain end of the body is a BadPlace
pub no_view : (o : Option HistogramView) (e w : Refusal) → ok_or o e ≡ Err w → (o ≡ None) × (w ≡ e)
no_view None e w h = (refl, cc)
no_view (Some v) e w h = never cc
