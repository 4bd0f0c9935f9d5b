-- A signed number and the place after it, or a fault.
-- To be believed. Assumes nothing.
use Rattle.std.specs.Prelude.{ℕ, ℤ, Result, Ok, Err}
use Rattle.wal_types.specs.declared.Refusal.{Refusal}

abbrev pub SignedRead : Type 0
SignedRead = Result (ℤ × ℕ) Refusal

pattern abbrev pub Got : ℤ → ℕ → SignedRead
Got value next = Ok (value, next)

pattern abbrev pub Fault : Refusal → SignedRead
Fault why = Err why
