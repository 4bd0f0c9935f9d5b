-- All four lists, spans and buckets, and the place after them; or a fault.
-- To be believed. Assumes nothing.
use Rattle.std.specs.Prelude.{ℕ, Result, Ok, Err}
use Rattle.wal_types.specs.declared.Refusal.{Refusal}
use Rattle.body_format.specs.declared.SidesView.{SidesView}

abbrev pub ListsRead : Type 0
ListsRead = Result (SidesView × SidesView × ℕ) Refusal

pattern abbrev pub Got : SidesView → SidesView → ℕ → ListsRead
Got spans buckets next = Ok (spans, buckets, next)

pattern abbrev pub Fault : Refusal → ListsRead
Fault why = Err why
