-- What starting a body or adding an entry answers: the next state, or the refusal.
-- To be believed. Assumes nothing.
use Rattle.std.specs.Prelude.{Result, Ok, Err}
use Rattle.wal_types.specs.declared.Refusal.{Refusal}
use Rattle.body_builder.specs.declared.Body.{Body}

abbrev pub Added : Type 0
Added = Result Body Refusal

pattern abbrev pub Next : Body → Added
Next body = Ok body

pattern abbrev pub Refused : Refusal → Added
Refused why = Err why
