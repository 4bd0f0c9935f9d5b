-- The type that a tag or a body has, or the refusal.
-- To be believed. Assumes nothing.
use Rattle.std.specs.Prelude.{Result, Ok, Err}
use Rattle.wal_types.specs.declared.Refusal.{Refusal}
use Rattle.body_reader.specs.declared.tags.BodyLayout.{BodyLayout}

abbrev pub TypeRead : Type 0
TypeRead = Result BodyLayout Refusal

pattern abbrev pub Known : BodyLayout → TypeRead
Known layout = Ok layout

pattern abbrev pub Refused : Refusal → TypeRead
Refused why = Err why
