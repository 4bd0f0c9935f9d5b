-- Elements of another body: one read, and several that are measured or written one after another.
use Rattle.std.proofs.Common.{◌≡◌, refl, sym, ap, ap₂, ◌∙◌, Bool, true, false, List, [], ◌++◌, ℕ, zero, suc, ◌+◌, ◌-◌, ◌≤◌, ◌<◌, arith, leb-true, leb-false, leb, ℤ, length, length-append}
use Rattle.std.proofs.lemmas.List.Edits.{sets}
use Rattle.std.proofs.Math.Seq.{length-sets}
use Rattle.byte_copy.specs.CopiedLaws.{sets-append}
use Rattle.byte_copy.specs.Put.{put_at, put_end}
use Rattle.byte_copy.specs.PutLaws.{put-fits, put_not}
use Rattle.std.specs.Prelude.{Option, Some, None, Result, Ok, Err}
use Rattle.std.specs.Result.{result_ok}
use Rattle.wal_types.specs.declared.Refusal.{Refusal}
use Rattle.wal_types.specs.declared.Offset.{Offset}
use Rattle.wal_types.specs.Terms.{offset}
use Rattle.body_format.specs.declared.Element.{Element}
use Rattle.body_format.specs.Results.SpanAnswer.{SpanAnswer}
use Rattle.body_format.specs.Results.SpanAnswer as span
use Rattle.body_format.specs.Results.BucketAnswer.{BucketAnswer}
use Rattle.body_format.specs.Results.BucketAnswer as bucket
use Rattle.body_format.specs.Fields.{Field, got, fault}
use Rattle.body_format.specs.Histograms.{Span, Item, item_at, item_bytes}
use Rattle.body_format.specs.Reading.{answer_span, answer_bucket}
use Rattle.body_fields.specs.Laws.{never}
use Rattle.body_builder.specs.Laws.Putting.{Put, put_last}
use Rattle.body_builder.specs.Laws.Additions.{Sized, exact, above}
use Rattle.body_builder_histogram.specs.Lent.{span_of}
use Rattle.body_copy_histogram.specs.Forms.{bytes_of, after_of, measured_of, copied_of, items_from}

-- ---- what an answer says of the reading

pub span-got : (f : Field Span) (r : SpanAnswer) {g : ℤ} {n : ℕ} {q : Offset} → r ≡ answer_span f → r ≡ span.Found g n q → f ≡ got (span_of g n) q.0
span-got (got a p) r {g} {n} {q} e h =
    let v : ◌≡◌ {A = ℤ × ℕ × Offset} (a.gap, a.size, offset p) (g, n, q) = cc in
    ap (λ (w : ℤ × ℕ × Offset). got (span_of w.0 w.1) w.2.0) v
span-got (fault w) r e h = never cc

pub bucket-got : (f : Field ℕ) (r : BucketAnswer) {v : ℕ} {q : Offset} → r ≡ answer_bucket f → r ≡ bucket.Found v q → f ≡ got v q.0
bucket-got (got a p) r {v} {q} e h =
    let w : ◌≡◌ {A = ℕ × Offset} (a, offset p) (v, q) = cc in
    ap (λ (w : ℕ × Offset). got w.0 w.1.0) w
bucket-got (fault w) r e h = never cc

-- an `Ok` that was asked for
ok_some : {A E : Type 0} (r : Result A E) (v : A) → result_ok r ≡ Some v → r ≡ Ok v
ok_some (Ok x) v e = cc
ok_some (Err why) v e = never cc

pub span-read : (f : Field Span) (r : SpanAnswer) {g : ℤ} {n : ℕ} {q : Offset} → r ≡ answer_span f → result_ok r ≡ Some (g, n, q) → f ≡ got (span_of g n) q.0
span-read f r e h = span-got f r e (ok_some r _ h)

pub span-unread : (f : Field Span) → result_ok (answer_span f) ≡ None → (why : Refusal) × (f ≡ fault why)
span-unread (got a p) h = never cc
span-unread (fault w) h = (w, refl)

pub bucket-read : (f : Field ℕ) (r : BucketAnswer) {v : ℕ} {q : Offset} → r ≡ answer_bucket f → result_ok r ≡ Some (v, q) → f ≡ got v q.0
bucket-read f r e h = bucket-got f r e (ok_some r _ h)

pub bucket-unread : (f : Field ℕ) → result_ok (answer_bucket f) ≡ None → (why : Refusal) × (f ≡ fault why)
bucket-unread (got a p) h = never cc
bucket-unread (fault w) h = (w, refl)

-- no bytes change nothing, wherever they are put
put-none : (b : List ℕ) (at : ℕ) → put_at b at [] ≡ b
put-none b at = go (leb (at + 0) (length b)) refl
  where
    go : (t : Bool) → leb (at + 0) (length b) ≡ t → put_at b at [] ≡ b
    go true e = put-fits b at [] (leb-true (at + 0) (length b) e)
    go false e = put_not b at [] (leb-false (at + 0) (length b) e)

-- ---- one, measured and written

module _ (x : Element) (f : Field (Item x)) where
  pub measured_got : (a : Item x) (n q : ℕ) → f ≡ got a q → n ≡ length (item_bytes x a) → ◌≡◌ {A = Option (ℕ × ℕ)} (Some (n, q)) (measured_of x f)
  measured_got a n q e h = rw (e, h) refl

  pub copied-got : (b : List ℕ) (place : ℕ) (a : Item x) (q : ℕ) → f ≡ got a q → (b₁ : List ℕ) (r : ℕ) → r ≡ put_end b place (item_bytes x a) → b₁ ≡ put_at b place (item_bytes x a)
      → ◌≡◌ {A = Option (ℕ × ℕ)} (Some (r, q)) (copied_of x b place f) × (b₁ ≡ put_at b place (bytes_of x f))
  copied-got b place a q e b₁ r g h = rw (e, g) (refl, h)

  -- what the answer says of it
  pub measured-told : (n q : ℕ) → ◌≡◌ {A = Option (ℕ × ℕ)} (Some (n, q)) (measured_of x f) → (n ≡ length (bytes_of x f)) × ((p : ℕ) → q ≡ after_of p f)
  measured-told n q e = go f e
    where
      go : (g : Field (Item x)) → ◌≡◌ {A = Option (ℕ × ℕ)} (Some (n, q)) (measured_of x g) → (n ≡ length (bytes_of x g)) × ((p : ℕ) → q ≡ after_of p g)
      go (got a r) k =
          let v : ◌≡◌ {A = ℕ × ℕ} (n, q) (length (item_bytes x a), r) = cc in
          (ap (λ (w : ℕ × ℕ). w.0) v, λ p. ap (λ (w : ℕ × ℕ). w.1) v)
      go (fault why) k = never cc

  pub copied-told : (b : List ℕ) (place r q : ℕ) → ◌≡◌ {A = Option (ℕ × ℕ)} (Some (r, q)) (copied_of x b place f) → (r ≡ put_end b place (bytes_of x f)) × ((p : ℕ) → q ≡ after_of p f)
  copied-told b place r q e = go f e
    where
      go : (g : Field (Item x)) → ◌≡◌ {A = Option (ℕ × ℕ)} (Some (r, q)) (copied_of x b place g) → (r ≡ put_end b place (bytes_of x g)) × ((p : ℕ) → q ≡ after_of p g)
      go (got a t) k =
          let v : ◌≡◌ {A = ℕ × ℕ} (r, q) (put_end b place (item_bytes x a), t) = cc in
          (ap (λ (w : ℕ × ℕ). w.0) v, λ p. ap (λ (w : ℕ × ℕ). w.1) v)
      go (fault why) k = never cc

  pub unread : None ≡ measured_of x f → (bytes_of x f ≡ []) × ((p : ℕ) → after_of p f ≡ p)
  unread e = go f e
    where
      go : (g : Field (Item x)) → None ≡ measured_of x g → (bytes_of x g ≡ []) × ((p : ℕ) → after_of p g ≡ p)
      go (got a t) k = never cc
      go (fault why) k = (refl, λ p. refl)

  pub uncopied : (b : List ℕ) (place : ℕ) → None ≡ copied_of x b place f → (bytes_of x f ≡ []) × ((p : ℕ) → after_of p f ≡ p)
  uncopied b place e = go f e
    where
      go : (g : Field (Item x)) → None ≡ copied_of x b place g → (bytes_of x g ≡ []) × ((p : ℕ) → after_of p g ≡ p)
      go (got a t) k = never cc
      go (fault why) k = (refl, λ p. refl)

  -- one that cannot be read
  pub copied_none : (b : List ℕ) (place : ℕ) {why : Refusal} → f ≡ fault why
      → (copied_of x b place f ≡ None) × (b ≡ put_at b place (bytes_of x f))
  copied_none b place e = rw e (refl, sym (put-none b place))

-- after one that cannot be read there is none
none-left : (x : Element) (s : List ℕ) (n p : ℕ) → bytes_of x (item_at x s p) ≡ [] → after_of p (item_at x s p) ≡ p → items_from x n s p ≡ []
unfolding items_from
none-left x s zero p e f = refl
none-left x s (suc n) p e f = rw (e, f) (none-left x s n p e f)

-- the same, for an element that is known to be y
pub measured_as : (x y : Element) (s : List ℕ) (p : ℕ) → x ≡ y → {m : Option (ℕ × ℕ)} → m ≡ measured_of y (item_at y s p) → m ≡ measured_of x (item_at x s p)
measured_as x y s p e h = rw e h

pub copied_as : (x y : Element) (s : List ℕ) (p : ℕ) (b : List ℕ) (place : ℕ) → x ≡ y → {m : Option (ℕ × ℕ)} {b₁ : List ℕ}
    → (m ≡ copied_of y b place (item_at y s p)) × (b₁ ≡ put_at b place (bytes_of y (item_at y s p)))
    → (m ≡ copied_of x b place (item_at x s p)) × (b₁ ≡ put_at b place (bytes_of x (item_at x s p)))
copied_as x y s p b place e h = rw e h

-- ---- several, measured

module _ (x : Element) (s : List ℕ) (first count : ℕ) where
  -- `left` elements are still to be measured, from `at` on, after `total` bytes
  pub record Sizing (at total left : ℕ) : Type 0 where
    pub few : total ≤ 65536
    pub whole : total + length (items_from x left s at) ≡ length (items_from x count s first)

  module _ (at total left : ℕ) (i : Sizing at total left) (h : 0 < left) (n : ℕ) (e : n ≡ length (bytes_of x (item_at x s at))) where
    more : total + n + length (items_from x (left - 1) s (after_of at (item_at x s at))) ≡ length (items_from x count s first)
    unfolding items_from
    more =
        let k : left ≡ suc (left - 1) = omega arith in
        let one : length (items_from x left s at) ≡ n + length (items_from x (left - 1) s (after_of at (item_at x s at))) =
        ap (λ (m : ℕ). length (items_from x m s at)) k
        ∙ length-append (bytes_of x (item_at x s at)) (items_from x (left - 1) s (after_of at (item_at x s at)))
        ∙ ap (λ (m : ℕ). m + length (items_from x (left - 1) s (after_of at (item_at x s at)))) (sym e) in
        omega (arith, i.whole, one)

    pub size-again : total + n ≤ 65536 → (q : ℕ) → q ≡ after_of at (item_at x s at) → Sizing q (total + n) (left - 1)
    size-again small q a = record { few = small; whole = ap (λ (p : ℕ). total + n + length (items_from x (left - 1) s p)) a ∙ more }

    pub size_above : 65536 < total + n → Sized 65537 (length (items_from x count s first))
    size_above big = above (omega arith) (omega (arith, more))

  -- one that cannot be read is the last
  pub size-unread : (at total left : ℕ) → Sizing at total left → None ≡ measured_of x (item_at x s at) → Sized total (length (items_from x count s first))
  size-unread at total left i e =
      let u = unread x (item_at x s at) e in
      exact (omega (arith, i.whole, ap length (none-left x s left at u.0 (u.1 at))))

  pub size-done : (at total : ℕ) → Sizing at total 0 → Sized total (length (items_from x count s first))
  unfolding items_from
  size-done at total i = exact (omega (arith, i.whole))

-- ---- several, written

module _ (x : Element) (s : List ℕ) (first count : ℕ) (b₀ : List ℕ) (at : ℕ) where
  -- once those that are left are written to b from `place` on, b is what b₀ is to become
  pub record Laying (b : List ℕ) (place next left : ℕ) : Type 0 where
    pub size : length b ≡ length b₀
    pub end : place + length (items_from x left s next) ≡ at + length (items_from x count s first)
    pub same : sets b place (items_from x left s next) ≡ sets b₀ at (items_from x count s first)

  module _ (b : List ℕ) (place next left : ℕ) (l : Laying b place next left) (h : 0 < left) (room : at + length (items_from x count s first) ≤ length b₀) where
    one : List ℕ
    one = bytes_of x (item_at x s next)

    others : List ℕ
    others = items_from x (left - 1) s (after_of next (item_at x s next))

    split : items_from x left s next ≡ one ++ others
    unfolding items_from one others
    split = let n : left ≡ suc (left - 1) = omega arith in ap (λ (k : ℕ). items_from x k s next) n

    item_room : place + length one ≤ length b
    item_room = omega (arith, l.end, l.size, ap length split, length-append one others, room)

    pub item_laid : (b₁ : List ℕ) (place₁ next₁ : ℕ)
        → (next₁ ≡ after_of next (item_at x s next)) × (place₁ ≡ put_end b place (bytes_of x (item_at x s next))) × (b₁ ≡ put_at b place (bytes_of x (item_at x s next)))
        → Laying b₁ place₁ next₁ (left - 1)
    unfolding one others
    item_laid b₁ place₁ next₁ (n, e, f) =
        let w : Put b place one b₁ place₁ = put_last b b₁ place place₁ one item_room e f in
        let rest : items_from x (left - 1) s next₁ ≡ others = ap (items_from x (left - 1) s) n in
        record {
          size = ap length w.1 ∙ length-sets b place one ∙ l.size;
          end = omega (arith, w.0, l.end, ap length split, length-append one others, ap length rest);
          same =
              ap₂ (λ (y : List ℕ) (z : List ℕ). sets y place₁ z) w.1 rest
              ∙ ap (λ (y : ℕ). sets (sets b place one) y others) w.0
              ∙ sets-append one others b place
              ∙ ap (sets b place) (sym split)
              ∙ l.same;
        }

  -- one that cannot be read is the last, and changes nothing
  pub items-unread : (b : List ℕ) (place next left : ℕ) → Laying b place next left → (b₁ : List ℕ)
      → (None ≡ copied_of x b place (item_at x s next)) × (b₁ ≡ put_at b place (bytes_of x (item_at x s next)))
      → Put b₀ at (items_from x count s first) b₁ place
  items-unread b place next left l b₁ (e, f) =
      let u = uncopied x (item_at x s next) b place e in
      let none = none-left x s left next u.0 (u.1 next) in
      let end = rw none at l.end in
      let same = rw none at l.same in
      (omega (arith, end), rw u.0 at f ∙ put-none b place ∙ same)

  pub items-laid : (b : List ℕ) (place next : ℕ) → Laying b place next 0 → Put b₀ at (items_from x count s first) b place
  unfolding items_from
  items-laid b place next l = (omega (arith, l.end), l.same)
