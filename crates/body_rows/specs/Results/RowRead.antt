-- A row's id, time and value, and the place after it; or a fault.
-- To be believed. Assumes nothing.
use Rattle.std.specs.Prelude.{ℕ, Result, Ok, Err}
use Rattle.wal_types.specs.declared.Refusal.{Refusal}
use Rattle.wal_types.specs.declared.SeriesId.{SeriesId}
use Rattle.wal_types.specs.declared.Timestamp.{Timestamp}

abbrev pub RowRead : Type 0
RowRead = Result (SeriesId × Timestamp × ℕ × ℕ) Refusal

pattern abbrev pub Got : SeriesId → Timestamp → ℕ → ℕ → RowRead
Got id time bits next = Ok (id, time, bits, next)

pattern abbrev pub Fault : Refusal → RowRead
Fault why = Err why
