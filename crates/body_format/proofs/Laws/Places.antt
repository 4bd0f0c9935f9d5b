-- Laws of places: where the entry of a place is, in a body of a known type, and which places are bad.
-- Assumes nothing.
use Rattle.std.proofs.Common.{◌≡◌, Bool, ◌&&◌, List, ℕ, ◌≤◌, ◌<◌, length, refl, true, false, cond, leb, sym, ap, arith, lt-ltb, le-ltb, le-leb, eq-eqb, ne_eqb}
use borrow.Author.Tests.{lt-leb}
use Rattle.wal_types.specs.declared.Refusal.TheVariants.{BadPlace}
use Rattle.wal_types.specs.Terms.{offset}
use Rattle.body_format.specs.Results.EntryPlace.{EntryPlace}
use Rattle.body_format.specs.Results.EntryPlace.{At, End, Refused}
use Rattle.body_format.specs.Entries.{BodyType, known, has_rows, first_at}
use Rattle.body_format.specs.Reading.{bad_place, place_or_end, first_place, entry_place, entry_there, entry_known}

module _ (s : List ℕ) (p : ℕ) where
  -- the plain end
  pub place_end : p ≡ length s → place_or_end s p ≡ End
  unfolding place_or_end
  place_end h = rw (eq-eqb p (length s) h)

  -- before it there is an entry
  pub place-before : p < length s → place_or_end s p ≡ At (offset p)
  unfolding place_or_end
  place-before h = rw (ne_eqb p (length s) (omega arith))

module _ (k : BodyType) (s : List ℕ) (p : ℕ) where
  -- place 0 is bad
  pub bad_zero : p ≡ 0 → entry_place k s p ≡ Refused BadPlace
  unfolding entry_place bad_place
  bad_zero h = rw (eq-eqb p 0 h, bad_place)

  -- and so is every place past the body
  pub bad-past : length s < p → entry_place k s p ≡ Refused BadPlace
  unfolding entry_place bad_place
  bad-past h = rw (ne_eqb p 0 (λ e. omega arith), bad_place, lt-ltb (length s) p h)

  -- and in a type with rows those inside the first id and the first timestamp
  pub bad_among : has_rows k ≡ true → 2 ≤ p → p ≤ 16 → p ≤ length s → entry_place k s p ≡ Refused BadPlace
  unfolding entry_place bad_place
  bad_among n h g l = rw (ne_eqb p 0 (λ e. omega arith), bad_place, le-ltb (length s) p l, n, le-leb 2 p h, le-leb p 16 g)

  -- place 1 means the first entry
  pub known-first : p ≡ 1 → 0 < length s → entry_place k s p ≡ first_place s (first_at (has_rows k) s)
  unfolding entry_place bad_place
  known-first e h =
      rw (
        eq-eqb p 1 e,
        ne_eqb p 0 (λ z. omega arith),
        bad_place,
        le-ltb (length s) p (omega arith),
        lt-leb 2 p (omega arith),
      )
      (go (has_rows k) _ _)
    where
      go : {A : Type 0} (rows : Bool) (bad first : A) → cond (rows && false) bad first ≡ first
      go true bad first = refl
      go false bad first = refl

  -- a later place means the entry there
  pub known-later : 2 ≤ p → p ≤ length s → (has_rows k ≡ true → 17 ≤ p) → entry_place k s p ≡ place_or_end s p
  unfolding entry_place bad_place
  known-later h l r =
      rw (ne_eqb p 0 (omega arith), bad_place, le-ltb (length s) p l, ne_eqb p 1 (omega arith)) (go (has_rows k) r)
    where
      go : (rows : Bool) → (rows ≡ true → 17 ≤ p)
          → cond (rows && (leb 2 p && leb p 16)) (Refused BadPlace) (place_or_end s p) ≡ place_or_end s p
      go true q = rw (le-leb 2 p h, lt-leb p 16 (q refl))
      go false q = refl

  -- the entry of a place, by where it is
  pub entry-there : {e : EntryPlace} → entry_place k s p ≡ e → entry_there k s e ≡ entry_known (known k) s p
  entry-there h = sym (ap (entry_there k s) h)
