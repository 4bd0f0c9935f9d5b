-- What reading a span answers: its offset and length and the place after it, or the refusal.
-- To be believed. Assumes nothing.
use Rattle.std.specs.Prelude.{ℕ, ℤ, Result, Ok, Err}
use Rattle.wal_types.specs.declared.Offset.{Offset}
use Rattle.wal_types.specs.declared.Refusal.{Refusal}

abbrev pub SpanAnswer : Type 0
SpanAnswer = Result (ℤ × ℕ × Offset) Refusal

pattern abbrev pub Found : ℤ → ℕ → Offset → SpanAnswer
Found o n next = Ok (o, n, next)

pattern abbrev pub Refused : Refusal → SpanAnswer
Refused why = Err why
