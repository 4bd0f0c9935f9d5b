-- A row's id and time, and the place after its head; or a fault.
-- To be believed. Assumes nothing.
use Rattle.std.specs.Prelude.{ℕ, Result, Ok, Err}
use Rattle.wal_types.specs.declared.Refusal.{Refusal}
use Rattle.wal_types.specs.declared.SeriesId.{SeriesId}
use Rattle.wal_types.specs.declared.Timestamp.{Timestamp}

abbrev pub HeadRead : Type 0
HeadRead = Result (SeriesId × Timestamp × ℕ) Refusal

pattern abbrev pub Got : SeriesId → Timestamp → ℕ → HeadRead
Got id time next = Ok (id, time, next)

pattern abbrev pub Fault : Refusal → HeadRead
Fault why = Err why
