-- What filling a list answers: the number of samples now at its front, or the refusal.
-- To be believed. Assumes nothing.
use Rattle.std.specs.Prelude.{ℕ, Result, Ok, Err}
use Rattle.wal_types.specs.declared.Refusal.{Refusal}

abbrev pub FillAnswer : Type 0
FillAnswer = Result ℕ Refusal

pattern abbrev pub Filled : ℕ → FillAnswer
Filled n = Ok n

pattern abbrev pub Refused : Refusal → FillAnswer
Refused why = Err why
