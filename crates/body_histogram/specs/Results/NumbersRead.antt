-- The numbers of a histogram and the place after them, or a fault.
-- To be believed. Assumes nothing.
use Rattle.std.specs.Prelude.{ℕ, Result, Ok, Err}
use Rattle.wal_types.specs.declared.Refusal.{Refusal}
use Rattle.body_format.specs.declared.Numbers.{Numbers}

abbrev pub NumbersRead : Type 0
NumbersRead = Result (Numbers × ℕ) Refusal

pattern abbrev pub Got : Numbers → ℕ → NumbersRead
Got numbers next = Ok (numbers, next)

pattern abbrev pub Fault : Refusal → NumbersRead
Fault why = Err why
