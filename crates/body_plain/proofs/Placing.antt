-- Where the entry of a place is in a body without rows: there, since place 1 is the first entry's
-- own.
use Rattle.std.proofs.Common.{◌≡◌, refl, Bool, true, false, List, ℕ, ◌≤◌, ◌<◌, eqb, length, sym, ap, ◌∙◌, arith, eqb-true}
use borrow.Author.Tests.{eqb-false}
use Rattle.body_format.specs.Entries.{BodyType, has_rows, first_at}
use Rattle.body_format.specs.Reading.{place_or_end, first_place, entry_place}
use Rattle.body_format.proofs.Laws.Places.{known-first, known-later}
use Rattle.body_fields.specs.Laws.{never}

pub plain_here : (k : BodyType) (s : List ℕ) (p : ℕ) → has_rows k ≡ false → 0 < p → p ≤ length s
    → entry_place k s p ≡ place_or_end s p
plain_here k s p n h l = go (eqb p 1) refl
  where
    go : (t : Bool) → eqb p 1 ≡ t → entry_place k s p ≡ place_or_end s p
    go true e =
        let one : p ≡ 1 = eqb-true p 1 e in
        known-first k s p one (omega arith)
        ∙ ap (λ (rows : Bool). first_place s (first_at rows s)) n ∙ ap (place_or_end s) (sym one)
    go false e = known-later k s p (omega (arith, eqb-false p 1 e)) l (λ r. never cc)
