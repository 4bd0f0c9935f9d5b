-- The number of strings in a list, where the first begins, and the place after the last; or a
-- fault. To be believed. Assumes nothing.
use Rattle.std.specs.Prelude.{ℕ, Result, Ok, Err}
use Rattle.wal_types.specs.declared.Refusal.{Refusal}

abbrev pub StringListRead : Type 0
StringListRead = Result (ℕ × ℕ × ℕ) Refusal

pattern abbrev pub Got : ℕ → ℕ → ℕ → StringListRead
Got n first next = Ok (n, first, next)

pattern abbrev pub Fault : Refusal → StringListRead
Fault why = Err why
