-- What reading a string answers: where its bytes start and how many they are, or the refusal.
-- To be believed. Assumes nothing.
use Rattle.std.specs.Prelude.{ℕ, Result, Ok, Err}
use Rattle.wal_types.specs.declared.Offset.{Offset}
use Rattle.wal_types.specs.declared.Refusal.{Refusal}

abbrev pub StringAnswer : Type 0
StringAnswer = Result (Offset × ℕ) Refusal

pattern abbrev pub Found : Offset → ℕ → StringAnswer
Found start n = Ok (start, n)

pattern abbrev pub Refused : Refusal → StringAnswer
Refused why = Err why
