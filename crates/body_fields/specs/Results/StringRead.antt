-- Where a string's bytes start, their number, and the place after them; or a fault.
-- To be believed. Assumes nothing.
use Rattle.std.specs.Prelude.{ℕ, Result, Ok, Err}
use Rattle.wal_types.specs.declared.Refusal.{Refusal}

abbrev pub StringRead : Type 0
StringRead = Result (ℕ × ℕ × ℕ) Refusal

pattern abbrev pub Got : ℕ → ℕ → ℕ → StringRead
Got start n next = Ok (start, n, next)

pattern abbrev pub Fault : Refusal → StringRead
Fault why = Err why
