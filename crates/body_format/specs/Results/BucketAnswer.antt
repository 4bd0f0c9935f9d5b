-- What reading a bucket answers: its 64 bits and the place after it, or the refusal.
-- To be believed. Assumes nothing.
use Rattle.std.specs.Prelude.{ℕ, Result, Ok, Err}
use Rattle.wal_types.specs.declared.Offset.{Offset}
use Rattle.wal_types.specs.declared.Refusal.{Refusal}

abbrev pub BucketAnswer : Type 0
BucketAnswer = Result (ℕ × Offset) Refusal

pattern abbrev pub Found : ℕ → Offset → BucketAnswer
Found bits next = Ok (bits, next)

pattern abbrev pub Refused : Refusal → BucketAnswer
Refused why = Err why
