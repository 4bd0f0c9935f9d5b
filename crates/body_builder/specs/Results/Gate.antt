-- Whether an entry may be added, or why not.
-- To be believed. Assumes nothing.
use Rattle.std.specs.Prelude.{Result, Ok, Err}
use Rattle.wal_types.specs.declared.Refusal.{Refusal}

abbrev pub Gate : Type 0
Gate = Result (Unit {0}) Refusal

pattern abbrev pub Open : Gate
Open = Ok tt

pattern abbrev pub Shut : Refusal → Gate
Shut why = Err why
