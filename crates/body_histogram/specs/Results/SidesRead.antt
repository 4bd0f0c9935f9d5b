-- The lists of both sides and the place after them, or a fault.
-- To be believed. Assumes nothing.
use Rattle.std.specs.Prelude.{ℕ, Result, Ok, Err}
use Rattle.wal_types.specs.declared.Refusal.{Refusal}
use Rattle.body_format.specs.declared.SidesView.{SidesView}

abbrev pub SidesRead : Type 0
SidesRead = Result (SidesView × ℕ) Refusal

pattern abbrev pub Got : SidesView → ℕ → SidesRead
Got sides next = Ok (sides, next)

pattern abbrev pub Fault : Refusal → SidesRead
Fault why = Err why
