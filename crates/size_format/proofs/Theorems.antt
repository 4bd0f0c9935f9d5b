-- The format's writer and `pages_for` keep the claim, for every checksum.
-- Assumes nothing.
use Rattle.std.specs.Prelude.{◌≡◌, refl, Bool, true, false, cond, ℕ, suc, ◌+◌, ◌*◌, ◌≤◌, ◌<◌, length, ltb, eqb}
use Rattle.std.proofs.Common.{arith, ltb-true, ltb-false, eqb-true, List, [], ◌∷◌}
use Rattle.std.proofs.lemmas.Bool.{eqb-false}
use Rattle.wal_types.specs.declared.Refusal.{Refusal}
use Rattle.wal_types.specs.declared.Refusal.TheVariants.{NoRoom}
use Rattle.wal_types.specs.Terms.{offset}
use Rattle.segment_format.specs.Calls.{writer}
use Rattle.segment_format.proofs.Laws.Lists.{cond_ind}
use Rattle.segment_format.proofs.Laws.Splitting.{fragments-four}
use Rattle.segment_format.proofs.Laws.Room.{Room, accepted-room}
use Rattle.size_format.specs.Results.PagesAnswer.{Pages, Refused}
use Rattle.size_format.specs.Size.{total, size_for, pages_of, pages_for, size_calls}
use Rattle.size_format.specs.Claims.{HeldIn, Sizes}
use Rattle.size_format.proofs.Laws.{place-exact, place-most, place-least, fits-place, fits_inside, fits-from}

-- ---- the pages

-- rounded up: they hold the size, and one page less does not, unless it is the only one
rounded : (size : ℕ) → (1 ≤ pages_of size) × (size ≤ 32761 * pages_of size) × (1 < pages_of size → 32761 * pages_of size ≤ size + 32760)
unfolding pages_of
rounded size =
    cond_ind (λ (k : ℕ). (1 ≤ k) × (size ≤ 32761 * k) × (1 < k → 32761 * k ≤ size + 32760)) (eqb size 0)
    (λ e. let z : size ≡ 0 = eqb-true size 0 e in (omega arith, omega arith, λ h. omega arith))
    (λ e. let p : 1 ≤ size = omega (arith, eqb-false size 0 e) in (omega arith, omega arith, λ h. omega arith))

-- the size of a list: its bytes, and 7 for each record but the first
size_holds : (ds : List (List ℕ)) → total ds + 7 * length ds ≤ size_for (length ds) (total ds) + 7
unfolding size_for total
size_holds [] = omega arith
size_holds (d ∷ ds) = omega arith

size-least : (ds : List (List ℕ)) → size_for (length ds) (total ds) ≤ total ds + 7 * length ds
unfolding size_for total
size-least [] = omega arith
size-least (d ∷ ds) = omega arith

size-one : (n : ℕ) → size_for 1 n ≡ n
unfolding size_for
size-one n = omega arith

-- the pages told, and that a segment has them
told : (n bytes k : ℕ) → pages_for n bytes ≡ Pages k → (pages_of (size_for n bytes) ≡ k) × (k ≤ 4096)
unfolding pages_for
told n bytes k h = by_limit (ltb 4096 (pages_of (size_for n bytes))) refl h
  where
    by_limit : (t : Bool) → ltb 4096 (pages_of (size_for n bytes)) ≡ t
        → cond t (Refused (NoRoom (offset 0))) (Pages (pages_of (size_for n bytes))) ≡ Pages k
        → (pages_of (size_for n bytes) ≡ k) × (k ≤ 4096)
    by_limit true e h = absurd (let z : ◌≡◌ {A = ℕ} 0 1 = cc in omega arith)
    by_limit false e h = let same : pages_of (size_for n bytes) ≡ k = cc in (same, omega (arith, ltb-false 4096 (pages_of (size_for n bytes)) e))

-- refused: NoRoom, where it is more pages than a segment has
untold : (n bytes : ℕ) (why : Refusal) → pages_for n bytes ≡ Refused why → (why ≡ NoRoom (offset 0)) × (4096 < pages_of (size_for n bytes))
unfolding pages_for
untold n bytes why h = by_limit (ltb 4096 (pages_of (size_for n bytes))) refl h
  where
    by_limit : (t : Bool) → ltb 4096 (pages_of (size_for n bytes)) ≡ t
        → cond t (Refused (NoRoom (offset 0))) (Pages (pages_of (size_for n bytes))) ≡ Refused why
        → (why ≡ NoRoom (offset 0)) × (4096 < pages_of (size_for n bytes))
    by_limit true e h = let same : why ≡ NoRoom (offset 0) = cc in (same, ltb-true 4096 (pages_of (size_for n bytes)) e)
    by_limit false e h = absurd (let z : ◌≡◌ {A = ℕ} 0 1 = cc in omega arith)

module _ (sum : ℕ → List ℕ → ℕ) where
  -- a list that fits takes its bytes and 7 for each record, at least
  held-least : (s : List ℕ) (ds : List (List ℕ)) (j : ℕ) → HeldIn (writer sum) s j ds → total ds + 7 * length ds ≤ 32768 * j
  held-least s ds j h = omega (arith, fits_inside sum ds s 0 h.fits (omega arith), place-least ds 0, h.pages)

  close_to : (s : List ℕ) (ds : List (List ℕ)) (k j : ℕ) → pages_of (size_for (length ds) (total ds)) ≡ k → k ≤ 4096
      → HeldIn (writer sum) s j ds → k ≤ suc j
  close_to s ds k j is l held = by_one (ltb 1 k) refl
    where
      by_one : (t : Bool) → ltb 1 k ≡ t → k ≤ suc j
      by_one true e =
          let least = (rounded (size_for (length ds) (total ds))).2 (omega (arith, ltb-true 1 k e)) in
          omega (arith, size-least ds, held-least s ds j held)
      by_one false e = omega (arith, ltb-false 1 k e)

  exact_one : (s d : List ℕ) (k j : ℕ) → pages_of (size_for 1 (length d)) ≡ k → HeldIn (writer sum) s j (d ∷ []) → k ≤ j
  exact_one s d k j is held = by_one (ltb 1 k) refl
    where
      r : Room (length s) 0 (length d)
      r = accepted-room (length s) 0 (length d) held.fits.0

      by_one : (t : Bool) → ltb 1 k ≡ t → k ≤ j
      by_one true e =
          let least = (rounded (size_for 1 (length d))).2 (omega (arith, ltb-true 1 k e)) in
          omega (arith, size-one (length d), r.room, r.inside, held.pages)
      by_one false e = omega (arith, ltb-false 1 k e, r.inside, held.pages)

  -- where no segment has the pages, a list that fits takes a whole one
  full_only : (s : List ℕ) (ds : List (List ℕ)) (j : ℕ) → 4096 < pages_of (size_for (length ds) (total ds)) → HeldIn (writer sum) s j ds → j ≡ 4096
  unfolding total
  full_only s [] j h held = absurd (omega (arith, (rounded (size_for 0 0)).2 (omega arith), size-least []))
  full_only s (d ∷ ds) j h held =
      let limited = (accepted-room (length s) 0 (length d) held.fits.0).limited in
      let least = (rounded (size_for (length (d ∷ ds)) (total (d ∷ ds)))).2 (omega arith) in
      omega (arith, size-least (d ∷ ds), held-least s (d ∷ ds) j held, held.pages)

  pub sizes : Sizes sum (size_calls sum)
  sizes = record {
    writes = λ s p d. refl;
    answers = λ n bytes. refl;
    exact = λ s ds f. omega (arith, fits-place sum ds s 0 f, place-exact ds 0);
    bound = λ s ds f. omega (arith, fits-place sum ds s 0 f, place-most ds 0 (omega arith));
    few = fragments-four;
    enough = λ s ds k j proper h kj jl n.
        let is = told (length ds) (total ds) k h in
        fits-from sum ds s j 0 n jl proper (omega arith) (omega arith)
        (omega (arith, (rounded (size_for (length ds) (total ds))).1, size_holds ds));
    some = λ n bytes k h. let is = told n bytes k h in (omega (arith, (rounded (size_for n bytes)).0), is.1);
    close = λ s ds k j h held. let is = told (length ds) (total ds) k h in close_to s ds k j is.0 is.1 held;
    one = λ s d k j h held. exact_one s d k j (told 1 (length d) k h).0 held;
    refuses = λ n bytes why h. (untold n bytes why h).0;
    full = λ s ds why j h held. full_only s ds j (untold (length ds) (total ds) why h).1 held;
  }
