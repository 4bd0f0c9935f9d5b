-- Where the row of a place is, and which places are bad: in a body that ends before its rows, and in
-- one that does not.
use Rattle.std.proofs.Common.{◌≡◌, refl, Bool, true, false, cond, List, ℕ, ◌≤◌, ◌<◌, eqb, ltb, length, sym, ap, ◌∙◌, arith, ne_eqb, eqb-true, ltb-true, ltb-false}
use borrow.Author.Tests.{eqb-false}
use Rattle.wal_types.specs.declared.Refusal.{Refusal}
use Rattle.wal_types.specs.declared.Refusal.TheVariants.{BadPlace, Short}
use Rattle.wal_types.specs.Terms.{offset}
use Rattle.body_format.specs.Results.EntryPlace.{End, Refused}
use Rattle.body_format.specs.Fields.{fault}
use Rattle.body_format.specs.Entries.{BodyType, has_rows, first_at}
use Rattle.body_format.specs.Reading.{place_or_end, first_place, entry_place}
use Rattle.body_format.proofs.Laws.Fields.{fixed_got, fixed_short}
use Rattle.body_format.proofs.Laws.Lists.{first_rows, first_one}
use Rattle.body_format.proofs.Laws.Places.{place_end, bad_zero, bad-past, bad_among, known-first, known-later}
use Rattle.body_rows.specs.Forms.{row_place}

-- ---- where rows begin: the first id ends too early, or the first timestamp

module _ (s : List ℕ) (h : length s ≡ 1 → ⊥) where
  pub first_1 : length s < 9 → first_at true s ≡ fault (Short (offset 1))
  first_1 l = rw (ne_eqb (length s) 1 h, fixed_short s 1 (omega arith))

  pub first_2 : 9 ≤ length s → length s < 17 → first_at true s ≡ fault (Short (offset 9))
  first_2 a b = rw (ne_eqb (length s) 1 h, fixed_got s 1 (omega arith), fixed_short s 9 (omega arith))

-- ---- where the row of a place is

module _ (k : BodyType) (s : List ℕ) (p : ℕ) (n : has_rows k ≡ true) where
  -- a body that ends before its rows
  pub small_bad : length s < 17 → (p ≡ 1 → ⊥) → entry_place k s p ≡ Refused BadPlace
  small_bad small h = go (eqb p 0) (ltb (length s) p) refl refl
    where
      go : (t u : Bool) → eqb p 0 ≡ t → ltb (length s) p ≡ u → entry_place k s p ≡ Refused BadPlace
      go true u e f = bad_zero k s p (eqb-true p 0 e)
      go false true e f = bad-past k s p (ltb-true (length s) p f)
      go false false e f =
          let l : p ≤ length s = ltb-false (length s) p f in
          bad_among k s p n (omega (arith, eqb-false p 0 e, h)) (omega arith) l

  pub small_end : p ≡ 1 → length s ≡ 1 → entry_place k s p ≡ End
  small_end e h =
      known-first k s p e (omega arith) ∙ rw (first_one (has_rows k) s h) (place_end s 1 (sym h))

  pub small_fault : p ≡ 1 → 0 < length s → {why : Refusal} → first_at true s ≡ fault why → entry_place k s p ≡ Refused why
  small_fault e some f = known-first k s p e some ∙ rw n (ap (first_place s) f)

  -- a body that has all of its first id and timestamp
  module _ (large : 17 ≤ length s) where
    pub row_low : row_place p < 17 → entry_place k s p ≡ Refused BadPlace
    row_low h = go (eqb p 1) (eqb p 0) refl refl h
      where
        go : (t u : Bool) → eqb p 1 ≡ t → eqb p 0 ≡ u → cond t 17 p < 17 → entry_place k s p ≡ Refused BadPlace
        go true u e f l = absurd (omega arith)
        go false true e f l = bad_zero k s p (eqb-true p 0 f)
        go false false e f l = bad_among k s p n (omega (arith, eqb-false p 1 e, eqb-false p 0 f)) (omega arith) (omega arith)

    pub row-past : length s < row_place p → entry_place k s p ≡ Refused BadPlace
    row-past h = go (eqb p 1) h
      where
        go : (t : Bool) → length s < cond t 17 p → entry_place k s p ≡ Refused BadPlace
        go true l = absurd (omega arith)
        go false l = bad-past k s p l

    pub row_here : 17 ≤ row_place p → row_place p ≤ length s → entry_place k s p ≡ place_or_end s (row_place p)
    row_here h l = go (eqb p 1) refl h l
      where
        go : (t : Bool) → eqb p 1 ≡ t → 17 ≤ cond t 17 p → cond t 17 p ≤ length s
            → entry_place k s p ≡ place_or_end s (cond t 17 p)
        go true e a b =
            known-first k s p (eqb-true p 1 e) (omega arith) ∙ rw n (ap (first_place s) (first_rows s large))
        go false e a b = known-later k s p (omega arith) b (λ r. a)
