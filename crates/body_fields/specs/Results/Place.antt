-- A place, or a fault on the way to it.
-- To be believed. Assumes nothing.
use Rattle.std.specs.Prelude.{ℕ, Result, Ok, Err}
use Rattle.wal_types.specs.declared.Refusal.{Refusal}

abbrev pub Place : Type 0
Place = Result ℕ Refusal

pattern abbrev pub At : ℕ → Place
At next = Ok next

pattern abbrev pub Fault : Refusal → Place
Fault why = Err why
