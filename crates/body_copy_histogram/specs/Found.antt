-- FORMAT 24.3: the entry that a place of another body has, and what its addition does (FORMAT 10).
-- To be believed. Assumes nothing.
use Rattle.std.specs.Prelude.{false, List, ℕ}
use Rattle.wal_types.specs.declared.Refusal.TheVariants.{BadPlace}
use Rattle.body_format.specs.Results.EntryPlace.{EntryPlace}
use Rattle.body_format.specs.Results.EntryPlace as place
use Rattle.body_format.specs.Fields.{Field, got, fault}
use Rattle.body_format.specs.Entries.{BodyType, Placed, entry_at}
use Rattle.body_format.specs.Reading.{entry_place}
use Rattle.body_format.specs.Building.{refused, add, add_bytes}
use Rattle.body_format.specs.Calls.{BuildResult}

-- the entry of a body s of type k, by where it is (FORMAT 11.3); the body's end has none: BadPlace
abbrev pub placed_there : BodyType → List ℕ → EntryPlace → Field Placed
placed_there k s (place.At p) = entry_at k s p.0
placed_there k s place.End = fault BadPlace
placed_there k s (place.Refused why) = fault why

-- the entry of place p
abbrev pub entry_found : BodyType → List ℕ → ℕ → Field Placed
entry_found k s p = placed_there k s (entry_place k s p)

-- adding it to the state (t, u) of a body in buffer b; where it cannot be read, its own refusal,
-- and no byte changes
abbrev pub adding_found : List ℕ → ℕ → ℕ → Field Placed → BuildResult
adding_found b t u (got e q) = record {
  outcome = add b t u e.entry false;
  buffer = add_bytes (add b t u e.entry false) b u e.entry;
}
adding_found b t u (fault why) = record { outcome = refused why; buffer = b }
