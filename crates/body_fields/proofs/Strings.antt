-- Strings: one, two, pairs of them, and a list after its count, one step at a time.
use Rattle.std.proofs.Common.{◌≡◌, refl, List, ◌∷◌, ℕ, suc, ◌+◌, ◌*◌, ◌-◌, ◌≤◌, ◌<◌, length, drop, sym, ap, ◌∙◌, arith, add-zero, length-drop, length-take-le}
use Rattle.wal_types.specs.declared.Refusal.{Refusal}
use Rattle.body_format.specs.Fields.{Field, got, fault, and_then, StringField, uvarint_at, string_at, strings_at, string_list_at}
use Rattle.body_format.proofs.Laws.Fields.{string-got}
use Rattle.body_format.proofs.Laws.Bounds.{of_got, uvarint_ahead, strings_ahead}
use Rattle.body_fields.specs.Results.StringRead as string
use Rattle.body_fields.specs.Results.StringListRead.{StringListRead}
use Rattle.body_fields.specs.Results.StringListRead as list
use Rattle.body_fields.specs.Results.Place.{Place}
use Rattle.body_fields.specs.Results.Place.{At, Fault}
use Rattle.body_fields.specs.Readings.{string_read, string_list_read}
use Rattle.body_fields.specs.Ends.{end_of}
use Rattle.body_fields.specs.Tally.{tally}

pub uvarint_inside : (s : List ℕ) (p n q : ℕ) → uvarint_at s p ≡ got n q → q ≤ length s
uvarint_inside s p n q e = (of_got _ (uvarint_at s p) n q (uvarint_ahead s p) e).1

-- ---- a string, and two

pub string-whole : (s : List ℕ) (p n q : ℕ) → uvarint_at s p ≡ got n q → n ≤ length s - q → string.Got q n (q + n) ≡ string_read (string_at s p)
string-whole s p n q e h =
    ap (λ (k : ℕ). string.Got q k (q + n)) (sym (length-take-le n (drop q s) (omega (arith, length-drop q s))))
    ∙ sym (ap string_read (string-got s p n q e h))

module _ (s : List ℕ) (p : ℕ) where
  pub pair_1 : {why : Refusal} → string_at s p ≡ fault why → Fault why ≡ end_of (strings_at 2 s p)
  unfolding strings_at
  pair_1 h = rw h

  pub pair_2 : {start size q : ℕ} {why : Refusal} → (t : StringField) × (string_at s p ≡ got t q) × (t.start ≡ start) × (length t.bytes ≡ size)
      → string_at s q ≡ fault why → Fault why ≡ end_of (strings_at 2 s p)
  unfolding strings_at
  pair_2 (t, h, a, b) i = rw (h, i)

  pub pair_all : {start size q start' size' r : ℕ} → (t : StringField) × (string_at s p ≡ got t q) × (t.start ≡ start) × (length t.bytes ≡ size)
      → (u : StringField) × (string_at s q ≡ got u r) × (u.start ≡ start') × (length u.bytes ≡ size')
      → At r ≡ end_of (strings_at 2 s p)
  unfolding strings_at
  pair_all (t, h, a, b) (u, i, c, d) = rw (h, i)

-- ---- pairs of strings

-- the place after a string
abbrev after : Field StringField → ℕ
after (got t q) = q
after (fault why) = 0

abbrev after_pair : List ℕ → ℕ → ℕ → ℕ → Place → StringListRead
after_pair s first k c (At q) = tally first (c + 2) (strings_at k s q)
after_pair s first k c (Fault why) = list.Fault why

two_more : (first c : ℕ) (a b : List ℕ) (f : Field (List (List ℕ)))
    → tally first c (and_then (and_then f (λ ts r. got (b ∷ ts) r)) (λ ts r. got (a ∷ ts) r)) ≡ tally first (c + 2) f
two_more first c a b (got ts r) = ap (λ (n : ℕ). list.Got n first r) (omega arith)
two_more first c a b (fault why) = refl

two_steps : (s : List ℕ) (first k p c : ℕ) (f g : Field StringField) → string_at s p ≡ f → string_at s (after f) ≡ g
    → tally first c (strings_at (suc (suc k)) s p) ≡ after_pair s first k c (end_of (strings_at 2 s p))
unfolding strings_at
two_steps s first k p c (fault why) g e h = rw e
two_steps s first k p c (got t q) (fault why) e h = rw (e, h)
two_steps s first k p c (got t q) (got u r) e h = rw (e, h) (two_more first c t.bytes u.bytes (strings_at k s r))

pair_step : (s : List ℕ) (first k p c : ℕ) → 0 < k
    → tally first c (strings_at (2 * k) s p) ≡ after_pair s first (2 * (k - 1)) c (end_of (strings_at 2 s p))
pair_step s first k p c h =
    let twice : 2 * k ≡ suc (suc (2 * (k - 1))) = omega arith in
    rw twice (two_steps s first (2 * (k - 1)) p c (string_at s p) _ refl refl)

-- `left` of `pairs` pairs are still to be read, from `at` on, after `count` strings
pub record Pairs (s : List ℕ) (first pairs at count left : ℕ) : Type 0 where
  pub inside : at ≤ length s
  pub few : count ≤ at
  pub same : tally first count (strings_at (2 * left) s at) ≡ tally first 0 (strings_at (2 * pairs) s first)

abbrev pub PairTold : List ℕ → ℕ → ℕ → ℕ → ℕ → ℕ → Place → Type 0
PairTold s first pairs at count left (At q) = Pairs s first pairs q (count + 2) (left - 1) × (q ≤ length s) × (count + 2 ≤ q)
PairTold s first pairs at count left (Fault why) = list.Fault why ≡ tally first 0 (strings_at (2 * pairs) s first)

pub pair_turn : (s : List ℕ) (first pairs at count left : ℕ) → Pairs s first pairs at count left → 0 < left
    → (r : Place) → r ≡ end_of (strings_at 2 s at) → PairTold s first pairs at count left r
pair_turn s first pairs at count left i h r e = rw e (go (strings_at 2 s at) refl)
  where
    step : tally first 0 (strings_at (2 * pairs) s first) ≡ after_pair s first (2 * (left - 1)) count (end_of (strings_at 2 s at))
    step = sym i.same ∙ pair_step s first left at count h

    go : (f : Field (List (List ℕ))) → strings_at 2 s at ≡ f → PairTold s first pairs at count left (end_of f)
    go (got ts q) g =
        let b = of_got _ (strings_at 2 s at) ts q (strings_ahead s 2 at i.inside) g in
        let t : tally first (count + 2) (strings_at (2 * (left - 1)) s q) ≡ tally first 0 (strings_at (2 * pairs) s first)
        = sym (step ∙ ap (λ (f : Field (List (List ℕ))). after_pair s first (2 * (left - 1)) count (end_of f)) g) in
        let few : count + 2 ≤ q = omega (arith, i.few) in
        (record { inside = b.1; few = few; same = t }, b.1, few)
    go (fault why) g = sym (step ∙ ap (λ (f : Field (List (List ℕ))). after_pair s first (2 * (left - 1)) count (end_of f)) g)

-- no pair is left
pub pairs_done : (s : List ℕ) (first pairs at count : ℕ) → Pairs s first pairs at count 0
    → list.Got count first at ≡ tally first 0 (strings_at (2 * pairs) s first)
unfolding strings_at
pairs_done s first pairs at count i = ap (λ (n : ℕ). list.Got n first at) (sym (add-zero count)) ∙ i.same

-- a list of strings: its count, and then the strings
pub list_1 : (s : List ℕ) (p : ℕ) {why : Refusal} → uvarint_at s p ≡ fault why → list.Fault why ≡ string_list_read (string_list_at s p)
unfolding string_list_at
list_1 s p h = rw h

pub list_all : (s : List ℕ) (p : ℕ) {n q : ℕ} → uvarint_at s p ≡ got n q → tally q 0 (strings_at (2 * n) s q) ≡ string_list_read (string_list_at s p)
unfolding string_list_at
list_all s p {n} {q} h = rw h (go (strings_at (2 * n) s q))
  where
    go : (f : Field (List (List ℕ))) → tally q 0 f ≡ string_list_read (and_then f (λ ts r. got (record { first = q; strings = ts }) r))
    go (got ts r) = ap (λ (m : ℕ). list.Got m q r) (omega arith)
    go (fault why) = refl
