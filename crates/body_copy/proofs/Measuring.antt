-- Strings of another body: what is known of one that is read, and of those that are measured one
-- after another.
use Rattle.std.proofs.Common.{◌≡◌, refl, sym, ap, ◌∙◌, Bool, true, false, cond, List, ◌∷◌, ℕ, suc, ◌+◌, ◌-◌, ◌≤◌, ◌<◌, arith, ltb-false, length, take, drop, length-drop, length-take-le, ltb}
use Rattle.std.specs.Prelude.{Result, Ok, Err, Some, None}
use Rattle.std.specs.Result.{result_ok}
use Rattle.body_fields.specs.Readings.{string_read}
use Rattle.wal_types.specs.declared.Refusal.TheVariants.{Short}
use Rattle.wal_types.specs.Terms.{offset}
use Rattle.uvarint.specs.Results.UvarintRead.{UvarintRead}
use Rattle.uvarint.specs.Results.UvarintRead as u
use Rattle.uvarint.specs.Uvarint.{uvarint, read_uvarint}
use Rattle.uvarint.specs.UvarintLaws.{taken}
use Rattle.body_format.specs.Fields.{Field, got, fault, and_then, StringField, uvarint_of, uvarint_at, string_at, strings_at}
use Rattle.body_format.specs.Building.{string_bytes, strings_bytes}
use Rattle.body_format.proofs.Laws.Fields.{length-string, length-strings}
use Rattle.body_format.proofs.Laws.Bounds.{Every, every_then, of_got}
use Rattle.body_copy.specs.Results.Measured.{Measured}
use Rattle.body_copy.specs.Results.Measured as measured
use Rattle.body_copy.specs.Results.Taken as size
use Rattle.body_copy.specs.Forms.{measured_of, size_taken}

-- ---- one string

-- a number takes no more bytes than it did where it was read
uvarint_shorter : (s : List ℕ) (p : ℕ) → Every (λ n q. (p + length (uvarint n) ≤ q) × (q ≤ length s)) (uvarint_at s p)
unfolding uvarint_at
uvarint_shorter s p = go (read_uvarint (drop p s)) refl
  where
    go : (r : UvarintRead) → read_uvarint (drop p s) ≡ r → Every (λ n q. (p + length (uvarint n) ≤ q) × (q ≤ length s)) (uvarint_of p r)
    go (u.Value n len) e =
        let t = taken (drop p s) n len e in
        (omega (arith, t.shortest), omega (arith, t.there, t.some, length-drop p s))
    go u.Short e = tt
    go u.BadVarint e = tt

-- it takes no more either; its bytes are where they are said to be, and end before the next place
pub record Standing (s : List ℕ) (p : ℕ) (t : StringField) (q : ℕ) : Type 0 where
  pub shorter : p + length (string_bytes t.bytes) ≤ q
  pub inside : q ≤ length s
  pub end : t.start + length t.bytes ≡ q
  pub there : t.bytes ≡ take (length t.bytes) (drop t.start s)

standing-all : (s : List ℕ) (p : ℕ) → Every (Standing s p) (string_at s p)
unfolding string_at
standing-all s p = every_then _ _ (uvarint_at s p) _ (uvarint_shorter s p) (λ n q h. go n q h (ltb (length (drop q s)) n) refl)
  where
    go : (n q : ℕ) → (p + length (uvarint n) ≤ q) × (q ≤ length s) → (b : Bool) → ltb (length (drop q s)) n ≡ b
        → Every (Standing s p) (cond b (fault (Short (offset p))) (got (record { start = q; bytes = take n (drop q s) }) (q + n)))
    go n q h true e = tt
    go n q h false e =
        let some : n ≤ length (drop q s) = ltb-false (length (drop q s)) n e in
        let long : length (take n (drop q s)) ≡ n = length-take-le n (drop q s) some in
        let head : length (uvarint (length (take n (drop q s)))) ≡ length (uvarint n) = ap (λ (m : ℕ). length (uvarint m)) long in
        record {
          shorter = omega (arith, length-string (take n (drop q s)), head, long, h.0);
          inside = omega (arith, length-drop q s, h.1);
          end = omega (arith, long);
          there = rw long;
        }

pub standing : (s : List ℕ) (p : ℕ) (t : StringField) (q : ℕ) → string_at s p ≡ got t q → Standing s p t q
standing s p t q e = of_got (Standing s p) (string_at s p) t q (standing-all s p) e

-- what was told of a string that was read
pub string-size_is : (s : List ℕ) (p start n q head : ℕ) → (t : StringField) × (string_at s p ≡ got t q) × (t.start ≡ start) × (length t.bytes ≡ n)
    → head ≡ length (uvarint n) → measured.Got (head + n) q ≡ measured_of (string_at s p)
string-size_is s p start n q head (t, e, a, b) h =
    let same : head + n ≡ length (string_bytes t.bytes) = h' in
    ap (λ (m : ℕ). measured.Got m q) same ∙ sym (ap measured_of e)
  where
    h' : head + n ≡ length (string_bytes t.bytes)
    h' = omega (arith, length-string t.bytes, h, b, ap (λ (m : ℕ). length (uvarint m)) b)

pub string-size-none : (f : Field StringField) → result_ok (string_read f) ≡ None → measured.Bad ≡ measured_of f
string-size-none (got t q) e = let z : ◌≡◌ {A = ℕ} 0 1 = cc in absurd (omega arith)
string-size-none (fault why) e = refl

-- an `Ok` that was asked for
pub ok_some : {A E : Type 0} (r : Result A E) (v : A) → result_ok r ≡ Some v → r ≡ Ok v
ok_some (Ok x) v e = cc
ok_some (Err why) v e = let z : ◌≡◌ {A = ℕ} 0 1 = cc in absurd (omega arith)

pub string_small : (s : List ℕ) (p start n q : ℕ) → (t : StringField) × (string_at s p ≡ got t q) × (t.start ≡ start) × (length t.bytes ≡ n) → n ≤ length s
string_small s p start n q (t, e, a, b) = let h = standing s p t q e in omega (arith, h.end, h.inside, b)

-- ---- several, measured one after another

-- `left` of `count` strings are still to be measured, from `at` on, after `total` bytes
pub record Sizing (s : List ℕ) (first count at total left : ℕ) : Type 0 where
  pub few : total ≤ at - first
  pub behind : first ≤ at
  pub same : size_taken total (strings_at left s at) ≡ size_taken 0 (strings_at count s first)

abbrev pub SizeTold : List ℕ → ℕ → ℕ → ℕ → ℕ → ℕ → Measured → Type 0
SizeTold s first count at total left (measured.Got n q) = Sizing s first count q (total + n) (left - 1) × (total + n ≤ length s)
SizeTold s first count at total left measured.Bad = size.Bad ≡ size_taken 0 (strings_at count s first)

one_more : (n : ℕ) (t : List ℕ) (f : Field (List (List ℕ)))
    → size_taken n (and_then f (λ ts r. got (t ∷ ts) r)) ≡ size_taken (n + length (string_bytes t)) f
one_more n t (got ts r) = ap size.Size (omega (arith, length-strings t ts, length-string t))
one_more n t (fault why) = refl

module _ (s : List ℕ) (first count at total left : ℕ) (i : Sizing s first count at total left) (h : 0 < left) where
  step : (f : Field StringField) → string_at s at ≡ f
      → size_taken total (strings_at left s at)
      ≡ size_taken total (and_then f (λ t q. and_then (strings_at (left - 1) s q) (λ ts r. got (t.bytes ∷ ts) r)))
  unfolding strings_at
  step f e =
      let n : left ≡ suc (left - 1) = omega arith in
      ap (λ (k : ℕ). size_taken total (strings_at k s at)) n
      ∙ ap (λ (x : Field StringField). size_taken total (and_then x (λ t q. and_then (strings_at (left - 1) s q) (λ ts r. got (t.bytes ∷ ts) r)))) e

  pub size-turn : (r : Measured) → r ≡ measured_of (string_at s at) → SizeTold s first count at total left r
  size-turn r e = rw e (go (string_at s at) refl)
    where
      go : (f : Field StringField) → string_at s at ≡ f → SizeTold s first count at total left (measured_of f)
      go (got t q) g =
          let w = standing s at t q g in (
            record {
              few = omega (arith, w.shorter, i.few, i.behind);
              behind = omega (arith, w.shorter, i.behind);
              same = sym (one_more total t.bytes (strings_at (left - 1) s q)) ∙ sym (step (got t q) g) ∙ i.same;
            },
            omega (arith, w.shorter, w.inside, i.few, i.behind),
          )
      go (fault why) g = sym (step (fault why) g) ∙ i.same

pub size-done : (s : List ℕ) (first count at total : ℕ) → Sizing s first count at total 0 → size.Size total ≡ size_taken 0 (strings_at count s first)
unfolding strings_at strings_bytes
size-done s first count at total i = ap size.Size (omega arith) ∙ i.same
