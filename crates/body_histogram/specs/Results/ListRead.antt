-- A list and the place after it, or a fault.
-- To be believed. Assumes nothing.
use Rattle.std.specs.Prelude.{ℕ, Result, Ok, Err}
use Rattle.wal_types.specs.declared.Refusal.{Refusal}
use Rattle.body_format.specs.declared.ListView.{ListView}

abbrev pub ListRead : Type 0
ListRead = Result (ListView × ℕ) Refusal

pattern abbrev pub Got : ListView → ℕ → ListRead
Got list next = Ok (list, next)

pattern abbrev pub Fault : Refusal → ListRead
Fault why = Err why
