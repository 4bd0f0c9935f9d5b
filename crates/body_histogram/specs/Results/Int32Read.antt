-- A signed number of 32 bits and the place after it, or a fault.
-- To be believed. Assumes nothing.
use Rattle.std.specs.Prelude.{ℕ, ℤ, Result, Ok, Err}
use Rattle.wal_types.specs.declared.Refusal.{Refusal}

abbrev pub Int32Read : Type 0
Int32Read = Result (ℤ × ℕ) Refusal

pattern abbrev pub Got : ℤ → ℕ → Int32Read
Got value next = Ok (value, next)

pattern abbrev pub Fault : Refusal → Int32Read
Fault why = Err why
