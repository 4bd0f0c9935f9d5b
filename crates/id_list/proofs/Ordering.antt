-- An id at a place is listed; in a list that ascends one that has its neighbours at a place and is
-- not there is not.
-- Assumes nothing.
use Rattle.std.specs.Prelude.{◌≡◌, ◌≢◌, Bool, true, false, ◌&&◌, ◌||◌, List, [], ◌∷◌, ℕ, zero, suc, ◌+◌, ◌≤◌, ◌<◌, length, get_or, leb, eqb, refl, MatchBool, MatchOption, MatchResult, Option, None, Some, Result, Ok, Err, is_ok, is_some}
use Rattle.std.specs.List.{AllWithin, HoldsAt}
use Rattle.std.specs.List.Sorted.{IsNonDecreasing, IsBinarySearchResult}
use Rattle.std.proofs.Common.{sym, arith, leb-true, le-leb, eq-eqb, ne_eqb, eqb-true, nat_cmp, inl, inr}
use Rattle.std.proofs.lemmas.Bool.{eqb-false, cases_lt}
use Rattle.std.proofs.lemmas.List.Sorted.{searched}
use Rattle.checkpoint_format.specs.Keeping.{is_listed}
use Rattle.id_list.specs.Ascending.{ascends_from, is_ascending}
use Rattle.id_list.specs.Places.{Below}

or-true : (t : Bool) → (t || true) ≡ true
or-true true = refl
or-true false = refl

-- ---- whether an id is there

pub listed_at : (id place : ℕ) (ids : List ℕ) → place < length ids → get_or ids place 0 ≡ id → true ≡ is_listed id ids
unfolding is_listed
listed_at id place [] h e = absurd (omega arith)
listed_at id zero (x ∷ ids) h e = rw (eq-eqb id x (sym e))
listed_at id (suc place) (x ∷ ids) h e = rw (← listed_at id place ids (omega arith) e) (sym (or-true (eqb id x)))

pub not_listed : (id : ℕ) (ids : List ℕ) → ((k : ℕ) → k < length ids → get_or ids k 0 ≢ id) → false ≡ is_listed id ids
unfolding is_listed
not_listed id [] none = refl
not_listed id (x ∷ ids) none =
    rw (ne_eqb id x (λ e. none 0 (omega arith) (sym e)))
    (not_listed id ids (λ k h. none (suc k) (omega arith)))

-- ---- in order

-- what the two tests of a list that ascends say
parts : (x y : ℕ) (ids : List ℕ) → ascends_from x (y ∷ ids) ≡ true → (x ≤ y) × (ascends_from y ids ≡ true)
unfolding ascends_from
parts x y ids e = go (leb x y) refl e
  where
    go : (t : Bool) → leb x y ≡ t → t && ascends_from y ids ≡ true → (x ≤ y) × (ascends_from y ids ≡ true)
    go true h g = (leb-true x y h, g)
    go false h g = absurd (cc)

at_least : (x place : ℕ) (ids : List ℕ) → ascends_from x ids ≡ true → place < length ids → x ≤ get_or ids place 0
at_least x place [] a h = absurd (omega arith)
at_least x zero (y ∷ ids) a h = (parts x y ids a).0
at_least x (suc place) (y ∷ ids) a h =
    let p = parts x y ids a in
    omega (arith, p.0, at_least y place ids p.1 (omega arith))

-- no id is above a later one
rises : (x : ℕ) (ids : List ℕ) → ascends_from x ids ≡ true
    → (i j : ℕ) → i ≤ j → j < length ids → get_or ids i 0 ≤ get_or ids j 0
rises x [] a i j l h = absurd (omega arith)
rises x (y ∷ ids) a zero zero l h = omega arith
rises x (y ∷ ids) a zero (suc j) l h = at_least y j ids (parts x y ids a).1 (omega arith)
rises x (y ∷ ids) a (suc i) zero l h = absurd (omega arith)
rises x (y ∷ ids) a (suc i) (suc j) l h = rises y ids (parts x y ids a).1 i j (omega arith) (omega arith)

-- by its neighbours at a place
pub by_neighbours : (ids : List ℕ) (id place : ℕ) → Below ids id place → is_ascending ids ≡ true
    → eqb (get_or ids place 0) id ≡ is_listed id ids
unfolding is_ascending
by_neighbours ids id place b a = go (eqb (get_or ids place 0) id) refl
  where
    go : (t : Bool) → eqb (get_or ids place 0) id ≡ t → t ≡ is_listed id ids
    go true e = listed_at id place ids b.inside (eqb-true (get_or ids place 0) id e)
    go false e =
        let ne = eqb-false (get_or ids place 0) id e in
        not_listed id ids
        (λ k h z. elim (cases_lt place k) [
          | inl l ↦ omega (arith, b.next (omega arith), rises 0 ids a (place + 1) k (omega arith) h)
          | inr l ↦ omega (arith, b.here, ne, rises 0 ids a k place l b.inside)
        ])

-- by the first one
pub before_all : (ids : List ℕ) (id : ℕ) → (0 < length ids → id < get_or ids 0 0) → is_ascending ids ≡ true → false ≡ is_listed id ids
unfolding is_ascending
before_all ids id f a = not_listed id ids (λ k h z. omega (arith, f (omega arith), rises 0 ids a 0 k (omega arith) h))

-- by what a search says
pub by_search : (ids : List ℕ) (id : ℕ) (r : Result ℕ ℕ) → IsBinarySearchResult (λ y. nat_cmp y id) ids r → is_ascending ids ≡ true
    → is_ok r ≡ is_listed id ids
unfolding is_ascending
by_search ids id r found a = go r (searched ids id r found (rises 0 ids a))
  where
    go : (r : Result ℕ ℕ)
        → MatchResult r (λ i. (i < length ids) × (get_or ids i 0 ≡ id))
        (λ i. (i ≤ length ids) × ((k : ℕ) → k < i → get_or ids k 0 < id) × ((k : ℕ) → i ≤ k → k < length ids → id < get_or ids k 0))
        → is_ok r ≡ is_listed id ids
    go (Ok i) h = listed_at id i ids h.0 h.1
    go (Err i) h = not_listed id ids (λ k l z. elim (cases_lt k i) [ inl b ↦ omega (arith, h.1 k b) | inr b ↦ omega (arith, h.2 k b l) ])

-- one after the other
pub by_place : (ids : List ℕ) (id : ℕ) (r : Option ℕ)
    → MatchOption r (AllWithin (λ x. x ≢ id) ids 0 (length ids))
    (λ i. (i < length ids) × HoldsAt (λ x. x ≡ id) ids i × AllWithin (λ x. x ≢ id) ids 0 i)
    → is_some r ≡ is_listed id ids
by_place ids id None h = not_listed id ids (λ k l. h k 0 (omega arith) l)
by_place ids id (Some i) h = listed_at id i ids h.0 (h.1 0)

-- ---- whether a list ascends

ascends_up : (x : ℕ) (ids : List ℕ) → (0 < length ids → x ≤ get_or ids 0 0)
    → ((k : ℕ) → suc k < length ids → get_or ids k 0 ≤ get_or ids (suc k) 0) → ascends_from x ids ≡ true
unfolding ascends_from
ascends_up x [] first up = refl
ascends_up x (y ∷ ids) first up =
    rw (le-leb x y (first (omega arith)))
    (ascends_up y ids (λ h. up 0 (omega arith)) (λ k h. up (suc k) (omega arith)))

pub by_sorted : (ids : List ℕ) (r : Bool)
    → MatchBool r (IsNonDecreasing ids) ((k : ℕ) × (k + 1 < length ids) × ((d : ℕ) → get_or ids (k + 1) d < get_or ids k d))
    → r ≡ is_ascending ids
unfolding is_ascending
by_sorted ids true up = sym (ascends_up 0 ids (λ h. omega arith) (λ k h. up k (suc k) 0 (omega arith) h))
by_sorted ids false w = go (ascends_from 0 ids) refl
  where
    go : (t : Bool) → ascends_from 0 ids ≡ t → false ≡ t
    go true a = absurd (omega (arith, w.2 0, rises 0 ids a w.0 (w.0 + 1) (omega arith) w.1))
    go false a = refl
