-- A number and the place after it, or a fault.
-- To be believed. Assumes nothing.
use Rattle.std.specs.Prelude.{ℕ, Result, Ok, Err}
use Rattle.wal_types.specs.declared.Refusal.{Refusal}

abbrev pub NumberRead : Type 0
NumberRead = Result (ℕ × ℕ) Refusal

pattern abbrev pub Got : ℕ → ℕ → NumberRead
Got value next = Ok (value, next)

pattern abbrev pub Fault : Refusal → NumberRead
Fault why = Err why
