-- Elements written one after another, and their sizes: once over the element.
use Rattle.std.proofs.Common.{◌≡◌, refl, sym, ap, ap₂, ◌∙◌, Bool, true, false, ◌||◌, not, List, [], ◌∷◌, ◌++◌, ℕ, zero, suc, ◌+◌, ◌*◌, ◌≤◌, ◌<◌, add-one, arith, eqb-true, ℤ, pos, eqb, length, get_or, drop, drop_of_length-le, length-append, drop-cons}
use Rattle.std.proofs.lemmas.List.Edits.{sets}
use Rattle.std.proofs.Math.Seq.{length-sets}
use Rattle.byte_copy.specs.CopiedLaws.{sets-append}
use Rattle.byte_copy.specs.Put.{put_at, put_end}
use Rattle.uvarint.specs.Uvarint.{uvarint}
use Rattle.body_format.specs.declared.Element.{Element}
use Rattle.body_format.specs.Histograms.{Item, item_bytes, items_bytes, list_bytes, LentSpans, join_spans, bad_spans}
use Rattle.body_format.proofs.Laws.Histograms.{length-items, count-items, length-items-list}
use Rattle.body_builder.specs.Laws.Putting.{Put, put_first, room_then, put_then}
use Rattle.body_builder.specs.Laws.Additions.{Sized, exact, above}
use Rattle.body_builder_histogram.specs.Lent.{span_of}

module _ (x : Element) (xs : List (Item x)) where
  -- ---- sizes

  -- the size so far and that of the elements that are left make the whole
  pub record Sizing (size i bound : ℕ) : Type 0 where
    pub inside : i ≤ length xs
    pub small : size ≤ bound * i
    pub whole : size + length (items_bytes x (drop i xs)) ≡ length (items_bytes x xs)

  pub sizing : (bound : ℕ) → Sizing 0 0 bound
  sizing bound = record { inside = omega arith; small = omega arith; whole = omega arith }

  pub sized_more : (size i bound : ℕ) → Sizing size i bound → (a : Item x) → drop i xs ≡ a ∷ drop (i + 1) xs → i < length xs
      → (n : ℕ) → n ≡ length (item_bytes x a) → n ≤ bound → Sizing (size + n) (i + 1) bound
  sized_more size i bound s a e h n k l = record {
    inside = omega arith;
    small = omega (arith, s.small);
    whole = omega (arith, s.whole, ap (λ (ys : List (Item x)). length (items_bytes x ys)) e, length-items x a (drop (i + 1) xs));
  }

  pub sized-all : (size i bound : ℕ) → Sizing size i bound → length xs ≤ i → (size ≡ length (items_bytes x xs)) × (size ≤ bound * length xs)
  unfolding items_bytes
  sized-all size i bound s h =
      let none : drop i xs ≡ [] = drop_of_length-le xs h in
      let whole = rw none at s.whole in
      let end : i ≡ length xs = omega (arith, s.inside) in
      (omega (arith, whole), rw (← end) s.small)

  -- a list of more than 65,536 elements has more bytes than that; of any other the size is exact
  pub list-above : 65536 < length xs → Sized 65537 (length (list_bytes x xs))
  list-above h = above (omega arith) (omega (arith, length-items-list x xs, count-items x xs))

  pub list-exact : (n m : ℕ) → n ≡ length (uvarint (length xs)) → m ≡ length (items_bytes x xs) → Sized (n + m) (length (list_bytes x xs))
  list-exact n m e f = exact (omega (arith, e, f, length-items-list x xs))

  -- ---- bytes

  -- Once the elements that are left are written to b from `place` on, b is what b₀ is to become,
  -- and the place after them is the same.
  pub record Laying (b₀ : List ℕ) (at : ℕ) (b : List ℕ) (place i : ℕ) : Type 0 where
    pub inside : i ≤ length xs
    pub size : length b ≡ length b₀
    pub end : place + length (items_bytes x (drop i xs)) ≡ at + length (items_bytes x xs)
    pub same : sets b place (items_bytes x (drop i xs)) ≡ sets b₀ at (items_bytes x xs)

  pub laying : (b : List ℕ) (at : ℕ) → Laying b at b at 0
  laying b at = record { inside = omega arith; size = refl; end = refl; same = refl }

  pub laid : (b₀ : List ℕ) (at : ℕ) (b : List ℕ) (place i : ℕ) → Laying b₀ at b place i → length xs ≤ i → Put b₀ at (items_bytes x xs) b place
  unfolding items_bytes
  laid b₀ at b place i l h =
      let none : drop i xs ≡ [] = drop_of_length-le xs h in
      let end = rw none at l.end in
      (omega (arith, end), rw none at l.same)

  -- one element more
  module _ (b₀ : List ℕ) (at : ℕ) (b : List ℕ) (place i : ℕ) (l : Laying b₀ at b place i) (a : Item x) (e : drop i xs ≡ a ∷ drop (i + 1) xs)
      (h : i < length xs) (room : at + length (items_bytes x xs) ≤ length b₀) where
    bytes : items_bytes x (drop i xs) ≡ item_bytes x a ++ items_bytes x (drop (i + 1) xs)
    unfolding items_bytes
    bytes = ap (items_bytes x) e

    pub item_room : place + length (item_bytes x a) ≤ length b
    item_room = omega (arith, l.end, l.size, ap length bytes, length-append (item_bytes x a) (items_bytes x (drop (i + 1) xs)))

    pub item_laid : (b' : List ℕ) (p : ℕ) → Put b place (item_bytes x a) b' p → Laying b₀ at b' p (i + 1)
    item_laid b' p w = record {
      inside = omega arith;
      size = ap length w.1 ∙ length-sets b place (item_bytes x a) ∙ l.size;
      end = omega (arith, w.0, l.end, ap length bytes, length-append (item_bytes x a) (items_bytes x (drop (i + 1) xs)));
      same =
          ap₂ (λ (c : List ℕ) (q : ℕ). sets c q (items_bytes x (drop (i + 1) xs))) w.1 w.0
          ∙ sets-append (item_bytes x a) (items_bytes x (drop (i + 1) xs)) b place
          ∙ ap (sets b place) (sym bytes)
          ∙ l.same;
    }

  -- a list: its count n, and then the elements
  module _ (b : List ℕ) (at : ℕ) (room : at + length (list_bytes x xs) ≤ length b) (b₁ : List ℕ) (p n : ℕ) (count : n ≡ length xs)
      (f : p ≡ put_end b at (uvarint n)) (g : b₁ ≡ put_at b at (uvarint n)) where
    counted : Put b at (uvarint (length xs)) b₁ p
    unfolding list_bytes
    counted = put_first b b₁ at p (uvarint (length xs)) (items_bytes x xs) room (rw count at f) (rw count at g)

    pub list-room : p + length (items_bytes x xs) ≤ length b₁
    unfolding list_bytes
    list-room = room_then b b₁ at p (uvarint (length xs)) (items_bytes x xs) room counted

    pub list-laid : (b₂ : List ℕ) (q : ℕ) → Put b₁ p (items_bytes x xs) b₂ q → Put b at (list_bytes x xs) b₂ q
    unfolding list_bytes
    list-laid b₂ q w = put_then b b₁ at p (uvarint (length xs)) (items_bytes x xs) room b₂ q counted w

-- ---- an element of the caller's slices

pub length-spans : (gaps : List ℤ) (sizes : List ℕ) → length gaps ≡ length sizes → length (join_spans gaps sizes) ≡ length sizes
unfolding join_spans
length-spans [] sizes h = h
length-spans (g ∷ gaps) [] h = absurd (omega (arith, h))
length-spans (g ∷ gaps) (n ∷ sizes) h = ap suc (length-spans gaps sizes (omega (arith, h)))

pub span-step : (gaps : List ℤ) (sizes : List ℕ) (i : ℕ) → length gaps ≡ length sizes → i < length sizes
    → drop i (join_spans gaps sizes) ≡ span_of (get_or gaps i (pos 0)) (get_or sizes i 0) ∷ drop (i + 1) (join_spans gaps sizes)
unfolding join_spans
span-step [] sizes i h k = absurd (omega (arith, h))
span-step (g ∷ gaps) [] i h k = absurd (omega arith)
span-step (g ∷ gaps) (n ∷ sizes) zero h k = refl
span-step (g ∷ gaps) (n ∷ sizes) (suc i) h k =
    let more : suc i + 1 ≡ suc (i + 1) = omega arith in
    rw more (span-step gaps sizes i (omega (arith, h)) (omega arith))

pub bucket-step : (vs : List ℕ) (i : ℕ) → i < length vs → drop i vs ≡ get_or vs i 0 ∷ drop (i + 1) vs
bucket-step vs i h = rw (add-one i, drop-cons vs i 0 h)

-- lists that are not bad have as many offsets as lengths
pub good-spans : (l : LentSpans) → bad_spans l ≡ false → length l.gaps ≡ length l.sizes
unfolding bad_spans
good-spans l h = go (eqb (length l.gaps) (length l.sizes)) refl h
  where
    go : (t : Bool) → eqb (length l.gaps) (length l.sizes) ≡ t → not t ≡ false → length l.gaps ≡ length l.sizes
    go true e k = eqb-true (length l.gaps) (length l.sizes) e
    go false e k = let z : ◌≡◌ {A = ℕ} 0 1 = cc in absurd (omega arith)

-- on both sides
pub bad-sides : (t u : Bool) → t || u ≡ false → (t ≡ false) × (u ≡ false)
bad-sides false false h = (refl, refl)
bad-sides false true h = let z : ◌≡◌ {A = ℕ} 0 1 = cc in absurd (omega arith)
bad-sides true u h = let z : ◌≡◌ {A = ℕ} 0 1 = cc in absurd (omega arith)
