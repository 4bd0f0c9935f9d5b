-- Strings of another body, written one after another: each after its length, and before them half
-- their number.
use Rattle.std.proofs.Common.{◌≡◌, refl, sym, ap, ap₂, ◌∙◌, true, false, List, ◌++◌, [], ℕ, zero, suc, ◌+◌, ◌-◌, ◌/◌, ◌%◌, ◌≤◌, ◌<◌, arith, length, take, drop, length-append, eqb}
use Rattle.std.proofs.lemmas.List.Edits.{sets}
use Rattle.std.proofs.Math.Seq.{length-sets}
use Rattle.std.specs.Prelude.{Option, Some, None}
use Rattle.std.specs.Result.{result_ok}
use Rattle.body_fields.specs.Readings.{string_read}
use Rattle.byte_copy.specs.CopiedLaws.{sets-append}
use Rattle.byte_copy.specs.Put.{put_at, put_end}
use Rattle.uvarint.specs.Uvarint.{uvarint}
use Rattle.body_format.specs.Fields.{Field, got, fault, StringField, string_at, strings_at}
use Rattle.body_format.specs.Building.{string_bytes, strings_bytes, string_list_bytes}
use Rattle.body_format.proofs.Laws.Fields.{length-string, length-strings}
use Rattle.body_format.proofs.Laws.Bounds.{Every, every_then, of_got}
use Rattle.body_builder.specs.Laws.Putting.{Put, put_first, room_then, put_then}
use Rattle.body_copy.specs.Results.Taken.{Taken}
use Rattle.body_copy.specs.Results.Taken as size
use Rattle.body_copy.specs.Taking.{strings_taken, bad_strings}
use Rattle.body_copy.specs.Forms.{size_taken, bytes_of, after_of, copied_of, strings_from, list_from}
use Rattle.body_copy.proofs.Measuring.{standing}

-- ---- strings that can all be read

-- they are written as they are read; they are as many as were asked for, and take no more bytes
pub record Whole (s : List ℕ) (k p : ℕ) (ts : List (List ℕ)) (q : ℕ) : Type 0 where
  pub bytes : strings_from k s p ≡ strings_bytes ts
  pub count : length ts ≡ k
  pub shorter : p + length (strings_bytes ts) ≤ q
  pub inside : q ≤ p + (length s - p)

itself : {A : Type 0} (f : Field A) → Every (λ a q. f ≡ got a q) f
itself (got a q) = refl
itself (fault why) = tt

whole-all : (s : List ℕ) (k p : ℕ) → Every (Whole s k p) (strings_at k s p)
unfolding strings_at strings_from strings_bytes
whole-all s zero p = record { bytes = refl; count = refl; shorter = omega arith; inside = omega arith }
whole-all s (suc k) p =
    every_then (λ t q. string_at s p ≡ got t q) _ (string_at s p) _ (itself (string_at s p)) (λ t q e.
    every_then (Whole s k q) (Whole s (suc k) p) (strings_at k s q) _ (whole-all s k q) (λ ts r w.
    let x = standing s p t q e in
    record {
      bytes = ap (λ (f : Field StringField). bytes_of f ++ strings_from k s (after_of p f)) e ∙ ap (λ (l : List ℕ). string_bytes t.bytes ++ l) w.bytes;
      count = ap suc w.count;
      shorter = omega (arith, length-strings t.bytes ts, length-string t.bytes, x.shorter, w.shorter);
      inside = omega (arith, x.inside, w.inside);
    }))

pub whole : (s : List ℕ) (k p : ℕ) (ts : List (List ℕ)) (q : ℕ) → strings_at k s p ≡ got ts q → Whole s k p ts q
whole s k p ts q e = of_got (Whole s k p) (strings_at k s p) ts q (whole-all s k p) e

-- ---- a list

-- one that is not bad is written as the format says
pub good-list : (s : List ℕ) (k p : ℕ) → bad_strings k (strings_at k s p) ≡ false → string_list_bytes (strings_taken (strings_at k s p)) ≡ list_from k s p
unfolding string_list_bytes list_from
good-list s k p h = go (strings_at k s p) refl h
  where
    go : (f : Field (List (List ℕ))) → strings_at k s p ≡ f → bad_strings k f ≡ false
        → uvarint (length (strings_taken f) / 2) ++ strings_bytes (strings_taken f) ≡ uvarint (k / 2) ++ strings_from k s p
    go (got ts q) e b =
        let w = whole s k p ts q e in
        ap₂ (λ (n : ℕ) (l : List ℕ). uvarint (n / 2) ++ l) w.count (sym w.bytes)
    go (fault why) e b = let z : ◌≡◌ {A = ℕ} 0 1 = cc in absurd (omega arith)

-- an odd number of strings
pub odd_bad : (k : ℕ) (f : Field (List (List ℕ))) → eqb (k % 2) 1 ≡ true → true ≡ bad_strings k f
odd_bad k (got ts q) h = sym h
odd_bad k (fault why) h = refl

-- what its size tells
pub record Told (s : List ℕ) (k p n : ℕ) : Type 0 where
  pub bad : eqb (k % 2) 1 ≡ bad_strings k (strings_at k s p)
  pub small : n ≤ length s
  pub is : (head : ℕ) → head ≡ length (uvarint (k / 2)) → head + n ≡ length (list_from k s p)

pub told-size : (s : List ℕ) (k p n : ℕ) (r : Taken) → r ≡ size_taken 0 (strings_at k s p) → r ≡ size.Size n → Told s k p n
unfolding list_from
told-size s k p n r e h = go (strings_at k s p) refl (sym e ∙ h)
  where
    go : (f : Field (List (List ℕ))) → strings_at k s p ≡ f → size_taken 0 f ≡ size.Size n → Told s k p n
    go (got ts q) g i =
        let w = whole s k p ts q g in
        let m : length (strings_bytes ts) ≡ n = let z : 0 + length (strings_bytes ts) ≡ n = cc in omega (arith, z) in
        record {
          bad = sym (ap (bad_strings k) g);
          small = omega (arith, w.shorter, w.inside);
          is = λ head x. omega (arith, length-append (uvarint (k / 2)) (strings_from k s p), ap length w.bytes);
        }
    go (fault why) g i = let z : ◌≡◌ {A = ℕ} 0 1 = cc in absurd (omega arith)

pub told-bad : (s : List ℕ) (k p : ℕ) (r : Taken) → r ≡ size_taken 0 (strings_at k s p) → r ≡ size.Bad → true ≡ bad_strings k (strings_at k s p)
told-bad s k p r e h = go (strings_at k s p) (sym e ∙ h)
  where
    go : (f : Field (List (List ℕ))) → size_taken 0 f ≡ size.Bad → true ≡ bad_strings k f
    go (got ts q) i = let z : ◌≡◌ {A = ℕ} 0 1 = cc in absurd (omega arith)
    go (fault why) i = refl

-- ---- one string, written

module _ (s : List ℕ) (p start n q : ℕ) (t : StringField) (e : string_at s p ≡ got t q) (a : t.start ≡ start) (c : length t.bytes ≡ n)
    (b : List ℕ) (place : ℕ) (room : place + length (bytes_of (string_at s p)) ≤ length b)
    (b₁ : List ℕ) (p₁ : ℕ) (f : p₁ ≡ put_end b place (uvarint n)) (g : b₁ ≡ put_at b place (uvarint n)) where
  text : List ℕ
  text = take n (drop start s)

  bytes : bytes_of (string_at s p) ≡ uvarint n ++ text
  unfolding string_bytes text
  bytes =
      let x = standing s p t q e in
      let same : t.bytes ≡ take n (drop start s) = x.there ∙ ap₂ (λ (m i : ℕ). take m (drop i s)) c a in
      ap bytes_of e ∙ ap₂ (λ (m : ℕ) (l : List ℕ). uvarint m ++ l) c same

  room₀ : place + length (uvarint n ++ text) ≤ length b
  room₀ = rw (← bytes) room

  pub text_inside : start + n ≤ length s
  text_inside = let x = standing s p t q e in omega (arith, x.end, x.inside, a, c)

  long : length text ≡ n
  unfolding text
  long = let x = standing s p t q e in ap length (sym (x.there ∙ ap₂ (λ (m i : ℕ). take m (drop i s)) c a)) ∙ c

  head : Put b place (uvarint n) b₁ p₁
  head = put_first b b₁ place p₁ (uvarint n) text room₀ f g

  pub text-room : p₁ + n ≤ length b₁
  text-room = omega (arith, room_then b b₁ place p₁ (uvarint n) text room₀ head, long)

  pub text-laid : (b₂ : List ℕ) → b₂ ≡ sets b₁ p₁ (take n (drop start s))
      → (q ≡ after_of p (string_at s p)) × Put b place (bytes_of (string_at s p)) b₂ (p₁ + n)
  unfolding text
  text-laid b₂ h =
      let end : Put b₁ p₁ text b₂ (p₁ + n) = (ap (λ (k : ℕ). p₁ + k) (sym long), h) in
      (sym (ap (after_of p) e), rw bytes (put_then b b₁ place p₁ (uvarint n) text room₀ b₂ (p₁ + n) head end))

  -- what is answered of it
  pub text-copied : (b₂ : List ℕ) → (q ≡ after_of p (string_at s p)) × Put b place (bytes_of (string_at s p)) b₂ (p₁ + n)
      → ◌≡◌ {A = Option (ℕ × ℕ)} (Some (p₁ + n, q)) (copied_of place (string_at s p)) × (b₂ ≡ sets b place (bytes_of (string_at s p)))
  text-copied b₂ (h, k) =
      let end : p₁ + n ≡ place + length (string_bytes t.bytes) = k.0 ∙ ap (λ (f : Field StringField). place + length (bytes_of f)) e in
      (ap (λ (m : ℕ). pair m) end ∙ sym (ap (copied_of place) e), k.1)
    where
      pair : ℕ → Option (ℕ × ℕ)
      pair m = Some (m, q)

-- one that cannot be read
pub text-none : (f : Field StringField) (b : List ℕ) (place : ℕ) → result_ok (string_read f) ≡ None
    → (None ≡ copied_of place f) × (b ≡ sets b place (bytes_of f))
text-none (got t q) b place e = let z : ◌≡◌ {A = ℕ} 0 1 = cc in absurd (omega arith)
text-none (fault why) b place e = (refl, refl)

copied-told : (f : Field StringField) (place r q : ℕ) → ◌≡◌ {A = Option (ℕ × ℕ)} (Some (r, q)) (copied_of place f)
    → (r ≡ place + length (bytes_of f)) × ((p : ℕ) → q ≡ after_of p f)
copied-told (got t n) place r q e =
    let v : ◌≡◌ {A = ℕ × ℕ} (r, q) (place + length (string_bytes t.bytes), n) = cc in
    (ap (λ (w : ℕ × ℕ). w.0) v, λ p. ap (λ (w : ℕ × ℕ). w.1) v)
copied-told (fault why) place r q e = let z : ◌≡◌ {A = ℕ} 0 1 = cc in absurd (omega arith)

uncopied : (f : Field StringField) (place : ℕ) → None ≡ copied_of place f → (bytes_of f ≡ []) × ((p : ℕ) → after_of p f ≡ p)
uncopied (got t n) place e = let z : ◌≡◌ {A = ℕ} 0 1 = cc in absurd (omega arith)
uncopied (fault why) place e = (refl, λ p. refl)

-- after one that cannot be read there is none
none-left : (s : List ℕ) (k p : ℕ) → bytes_of (string_at s p) ≡ [] → after_of p (string_at s p) ≡ p → strings_from k s p ≡ []
unfolding strings_from
none-left s zero p e f = refl
none-left s (suc k) p e f = rw (e, f) (none-left s k p e f)

-- ---- several, written

-- once those that are left are written to b from `place` on, b is what b₀ is to become
pub record Laying (s : List ℕ) (first count : ℕ) (b₀ : List ℕ) (at : ℕ) (b : List ℕ) (place next left : ℕ) : Type 0 where
  pub size : length b ≡ length b₀
  pub end : place + length (strings_from left s next) ≡ at + length (strings_from count s first)
  pub same : sets b place (strings_from left s next) ≡ sets b₀ at (strings_from count s first)

module _ (s : List ℕ) (first count : ℕ) (b₀ : List ℕ) (at : ℕ) (b : List ℕ) (place next left : ℕ) (l : Laying s first count b₀ at b place next left)
    (h : 0 < left) where
  one : List ℕ
  one = bytes_of (string_at s next)

  others : List ℕ
  others = strings_from (left - 1) s (after_of next (string_at s next))

  split : strings_from left s next ≡ one ++ others
  unfolding strings_from one others
  split = let n : left ≡ suc (left - 1) = omega arith in ap (λ (k : ℕ). strings_from k s next) n

  pub string-room : at + length (strings_from count s first) ≤ length b₀ → place + length (bytes_of (string_at s next)) ≤ length b
  unfolding one
  string-room room = omega (arith, l.end, l.size, ap length split, length-append one others)

  string-laid : (b₁ : List ℕ) (place₁ next₁ : ℕ) → (next₁ ≡ after_of next (string_at s next)) × Put b place (bytes_of (string_at s next)) b₁ place₁
      → Laying s first count b₀ at b₁ place₁ next₁ (left - 1)
  unfolding one others
  string-laid b₁ place₁ next₁ (n, w) =
      let rest : strings_from (left - 1) s next₁ ≡ others = ap (strings_from (left - 1) s) n in
      record {
        size = ap length w.1 ∙ length-sets b place one ∙ l.size;
        end = omega (arith, w.0, l.end, ap length split, length-append one others, ap length rest);
        same =
            ap₂ (λ (x : List ℕ) (y : List ℕ). sets x place₁ y) w.1 rest
            ∙ ap (λ (y : ℕ). sets (sets b place one) y others) w.0
            ∙ sets-append one others b place
            ∙ ap (sets b place) (sym split)
            ∙ l.same;
      }

  -- by what is answered of it
  pub string-more : (b₁ : List ℕ) (place₁ next₁ : ℕ)
      → ◌≡◌ {A = Option (ℕ × ℕ)} (Some (place₁, next₁)) (copied_of place (string_at s next)) × (b₁ ≡ sets b place (bytes_of (string_at s next)))
      → Laying s first count b₀ at b₁ place₁ next₁ (left - 1)
  string-more b₁ place₁ next₁ (e, f) =
      let t = copied-told (string_at s next) place place₁ next₁ e in
      string-laid b₁ place₁ next₁ (t.1 next, (t.0, f))

-- one that cannot be read is the last, and changes nothing
pub strings-unread : (s : List ℕ) (first count : ℕ) (b₀ : List ℕ) (at : ℕ) (b : List ℕ) (place next left : ℕ) → Laying s first count b₀ at b place next left
    → (b₁ : List ℕ) → (None ≡ copied_of place (string_at s next)) × (b₁ ≡ sets b place (bytes_of (string_at s next)))
    → Put b₀ at (strings_from count s first) b₁ place
strings-unread s first count b₀ at b place next left l b₁ (e, f) =
    let u = uncopied (string_at s next) place e in
    let none = none-left s left next u.0 (u.1 next) in
    let end = rw none at l.end in
    let same = rw none at l.same in
    (omega (arith, end), rw u.0 at f ∙ same)

pub strings-laid : (s : List ℕ) (first count : ℕ) (b₀ : List ℕ) (at : ℕ) (b : List ℕ) (place next : ℕ) → Laying s first count b₀ at b place next 0
    → Put b₀ at (strings_from count s first) b place
unfolding strings_from
strings-laid s first count b₀ at b place next l = (omega (arith, l.end), l.same)

-- ---- the list, written

module _ (s : List ℕ) (k p : ℕ) (b : List ℕ) (at : ℕ) (room : at + length (list_from k s p) ≤ length b)
    (b₁ : List ℕ) (q : ℕ) (e : q ≡ put_end b at (uvarint (k / 2))) (f : b₁ ≡ put_at b at (uvarint (k / 2))) where
  counted : Put b at (uvarint (k / 2)) b₁ q
  unfolding list_from
  counted = put_first b b₁ at q (uvarint (k / 2)) (strings_from k s p) room e f

  pub list-room : q + length (strings_from k s p) ≤ length b₁
  unfolding list_from
  list-room = room_then b b₁ at q (uvarint (k / 2)) (strings_from k s p) room counted

  pub list-laid : (b₂ : List ℕ) (r : ℕ) → Put b₁ q (strings_from k s p) b₂ r → Put b at (list_from k s p) b₂ r
  unfolding list_from
  list-laid b₂ r g = put_then b b₁ at q (uvarint (k / 2)) (strings_from k s p) room b₂ r counted g
