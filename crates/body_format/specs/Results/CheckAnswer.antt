-- What checking a body answers: its number of entries, or the refusal.
-- To be believed. Assumes nothing.
use Rattle.std.specs.Prelude.{ℕ, Result, Ok, Err}
use Rattle.wal_types.specs.declared.Refusal.{Refusal}

abbrev pub CheckAnswer : Type 0
CheckAnswer = Result ℕ Refusal

pattern abbrev pub Entries : ℕ → CheckAnswer
Entries n = Ok n

pattern abbrev pub Refused : Refusal → CheckAnswer
Refused why = Err why
