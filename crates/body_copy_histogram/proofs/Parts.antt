-- Two parts in a row: their size, the room for each, and both of them written. Also the gate that
-- is asked for them.
use Rattle.std.proofs.Common.{◌≡◌, refl, sym, ◌∙◌, Bool, true, false, cond, not, List, ◌++◌, ℕ, ◌+◌, ◌≤◌, arith, ltb-false, ltb, eqb, length, length-append}
use Rattle.wal_types.specs.declared.Refusal.{Refusal}
use Rattle.wal_types.specs.declared.Refusal.TheVariants.{BadPlace, WrongKind, TooLong, NoRoom}
use Rattle.wal_types.specs.Terms.{offset}
use Rattle.wal_types.specs.Deltas.{to_bits}
use Rattle.byte_copy.specs.Put.{put_at, put_end}
use Rattle.uvarint.specs.Uvarint.{uvarint}
use Rattle.body_format.specs.declared.BucketKind.{BucketKind}
use Rattle.body_format.specs.declared.Element.{Element}
use Rattle.body_format.specs.declared.Element.TheVariants as element
use Rattle.body_format.specs.declared.ListView.{ListView}
use Rattle.body_format.specs.declared.SidesView.{SidesView}
use Rattle.body_format.specs.declared.HistogramView.{HistogramView}
use Rattle.body_format.specs.Entries.{Entry, type_byte, body_type_for}
use Rattle.body_format.specs.Building.{used, refused, bad_state, entry_bytes, add, add_bytes}
use Rattle.body_fields.specs.Laws.{never}
use Rattle.body_builder.specs.Results.Gate.{Gate}
use Rattle.body_builder.specs.Results.Gate.{Open, Shut}
use Rattle.std.specs.Prelude.{Some, IsErrAnd}
use Rattle.body_builder.specs.Results.Added.{Added, Next}
use Rattle.body_builder.specs.Answers.{added_of}
use Rattle.body_builder.specs.Sizes.{gate_for, decided}
use Rattle.body_builder.specs.Laws.Putting.{Put, put_last, room_then, put_then}
use Rattle.body_builder.specs.Laws.Additions.{Sized, exact, above, both_sized, opened, turned_away, finished}
use Rattle.body_builder_histogram.specs.Front.{front_bytes}
use Rattle.body_copy_histogram.specs.Forms.{items_from, list_from, sides_from, lists_from, view_bytes}

-- ---- what is in two parts

pub record Parts (w : List ℕ) : Type 0 where
  pub first : List ℕ
  pub rest : List ℕ
  pub is : w ≡ first ++ rest

module _ (x : Element) (s : List ℕ) where
  pub list_is : (v : ListView) → list_from x s v ≡ uvarint v.count ++ items_from x v.count s v.first.0
  unfolding list_from
  list_is v = refl

  abbrev pub list_parts : (v : ListView) → Parts (list_from x s v)
  list_parts v = record { first = uvarint v.count; rest = items_from x v.count s v.first.0; is = list_is v }

  pub sides_is : (v : SidesView) → sides_from x s v ≡ list_from x s v.positive ++ list_from x s v.negative
  unfolding sides_from
  sides_is v = refl

  abbrev pub sides_parts : (v : SidesView) → Parts (sides_from x s v)
  sides_parts v = record { first = list_from x s v.positive; rest = list_from x s v.negative; is = sides_is v }

module _ (k : BucketKind) (s : List ℕ) where
  pub lists_are : (v w : SidesView) → lists_from k s v w ≡ sides_from element.Span s v ++ sides_from (element.Bucket k) s w
  unfolding lists_from
  lists_are v w = refl

  abbrev pub lists_parts : (v w : SidesView) → Parts (lists_from k s v w)
  lists_parts v w = record { first = sides_from element.Span s v; rest = sides_from (element.Bucket k) s w; is = lists_are v w }

  pub view_is : (b : List ℕ) (u : ℕ) (v : HistogramView)
      → view_bytes b u k s v ≡ front_bytes b u k v.id.0 (to_bits v.time.0) v.numbers ++ lists_from k s v.spans v.buckets
  unfolding view_bytes
  view_is b u v = refl

  abbrev pub view_parts : (b : List ℕ) (u : ℕ) (v : HistogramView) → Parts (view_bytes b u k s v)
  view_parts b u v = record {
    first = front_bytes b u k v.id.0 (to_bits v.time.0) v.numbers;
    rest = lists_from k s v.spans v.buckets;
    is = view_is b u v;
  }

-- ---- sizes

pub parts_sized : {w : List ℕ} (p : Parts w) (n m : ℕ) → Sized n (length p.first) → Sized m (length p.rest) → Sized (n + m) (length w)
parts_sized p n m f g = rw (p.is, length-append p.first p.rest) (both_sized f g)

-- ---- writing

module _ {w : List ℕ} (p : Parts w) (b : List ℕ) (at : ℕ) (room : at + length w ≤ length b) where
  room₀ : at + length (p.first ++ p.rest) ≤ length b
  room₀ = rw p.is at room

  pub first-room : at + length p.first ≤ length b
  first-room = omega (arith, room₀, length-append p.first p.rest)

  pub first-put : (b₁ : List ℕ) (q : ℕ) → q ≡ put_end b at p.first → b₁ ≡ put_at b at p.first → Put b at p.first b₁ q
  first-put b₁ q f g = put_last b b₁ at q p.first first-room f g

  module _ (b₁ : List ℕ) (q : ℕ) (f : Put b at p.first b₁ q) where
    pub second-room : q + length p.rest ≤ length b₁
    second-room = room_then b b₁ at q p.first p.rest room₀ f

    pub both_laid : (b₂ : List ℕ) (r : ℕ) → Put b₁ q p.rest b₂ r → Put b at w b₂ r
    both_laid b₂ r g = rw p.is (put_then b b₁ at q p.first p.rest room₀ b₂ r f g)

-- ---- the gate, and the addition of an entry whose bytes are w

module _ (b : List ℕ) (t u want n : ℕ) (w : List ℕ) (r : Gate) (g : r ≡ gate_for (decided b t u want false n)) (z : Sized n (length w)) where
  -- where it is open there is room
  pub open-room : r ≡ Open → u + length w ≤ length b
  unfolding decided
  open-room h = go (bad_state b t u) (not (eqb t want)) (ltb 65536 (u + n)) (ltb (length b) (u + n)) refl refl (sym g ∙ h) z
    where
      go : (x y v l : Bool) → ltb 65536 (u + n) ≡ v → ltb (length b) (u + n) ≡ l
          → gate_for (cond x (refused BadPlace) (cond y (refused WrongKind) (cond v (refused (TooLong (offset u))) (cond l (refused (NoRoom (offset u))) (used (u + n)))))) ≡ Open
          → Sized n (length w) → u + length w ≤ length b
      go true y v l e f i z = never cc
      go false true v l e f i z = never cc
      go false false true l e f i z = never cc
      go false false false true e f i z = never cc
      go false false false false e f i (exact k) = omega (arith, ltb-false (length b) (u + n) f)
      go false false false false e f i (above k m) = absurd (omega (arith, ltb-false 65536 (u + n) e))

  module _ (e : Entry) (tag : want ≡ type_byte (body_type_for e)) (bytes : entry_bytes b u e ≡ w) where
    size : false ≡ false → Sized n (length (entry_bytes b u e))
    size h = rw bytes z

    gate : r ≡ gate_for (decided b t u (type_byte (body_type_for e)) false n)
    gate = rw (← tag) g

    pub open_done : r ≡ Open → (d : List ℕ) (next : ℕ) → Put b u w d next
        → (Next (record { tag = t; used = offset next }) ≡ added_of t (add b t u e false)) × (d ≡ add_bytes (add b t u e false) b u e)
    open_done h d next p = finished b t u e false d next (opened b t u e false n size r gate h) (rw bytes p)

    pub shut_done : {why : Refusal} → r ≡ Shut why → (x : Added) → IsErrAnd x (λ y. y ≡ why)
        → (x ≡ added_of t (add b t u e false)) × (b ≡ add_bytes (add b t u e false) b u e)
    shut_done h x k = turned_away b t u e false (Some n) (refl, size) r gate h x k
