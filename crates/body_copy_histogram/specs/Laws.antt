-- The entry that `entry_at` of `body_reader` finds at a place is the one that is added from there.
-- Assumes nothing.
use Rattle.std.specs.Prelude.{◌≡◌, refl, List, ℕ}
use Rattle.std.proofs.Common.{ap}
use Rattle.wal_types.specs.Terms.{offset}
use Rattle.body_format.specs.Results.EntryPlace.{EntryPlace}
use Rattle.body_format.specs.Results.EntryPlace as place
use Rattle.body_format.specs.declared.EntryView.{EntryView}
use Rattle.body_format.specs.Results.EntryAnswer as answer
use Rattle.body_format.specs.Fields.{Field, got, fault}
use Rattle.body_format.specs.Entries.{BodyType, known, Placed, entry_at}
use Rattle.body_format.specs.Reading.{view, answer_entry, entry_place, entry_there, entry_known}
use Rattle.body_fields.specs.Laws.{never}
use Rattle.body_copy_histogram.specs.Found.{placed_there, entry_found}

module _ (k : BodyType) (s : List ℕ) (p : ℕ) where
  -- it is the one at the place where the entry of p is
  pub found_at : (q : ℕ) → entry_place k s p ≡ place.At (offset q) → entry_found k s p ≡ entry_at k s q
  found_at q e = ap (placed_there k s) e

  -- and of which `entry_at` reports the view v
  pub found-view : (v : EntryView) → entry_known (known k) s p ≡ answer.Found v
      → (e : Placed) × (q : ℕ) × (entry_found k s p ≡ got e q) × (view e.entry e.first q ≡ v)
  found-view v h = go (entry_place k s p) h
    where
      at : (f : Field Placed) → answer_entry f ≡ answer.Found v → (e : Placed) × (q : ℕ) × (f ≡ got e q) × (view e.entry e.first q ≡ v)
      at (got e q) i = (e, q, refl, cc)
      at (fault why) i = never cc

      go : (l : EntryPlace) → entry_there k s l ≡ answer.Found v
          → (e : Placed) × (q : ℕ) × (placed_there k s l ≡ got e q) × (view e.entry e.first q ≡ v)
      go (place.At q) i = at (entry_at k s q.0) i
      go place.End i = never cc
      go (place.Refused why) i = never cc
