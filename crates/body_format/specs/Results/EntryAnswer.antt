-- What reading an entry answers: the entry, the plain end of the body, or the refusal.
-- To be believed. Assumes nothing.
use Rattle.std.specs.Prelude.{Option, Some, None, Result, Ok, Err}
use Rattle.wal_types.specs.declared.Refusal.{Refusal}
use Rattle.body_format.specs.declared.EntryView.{EntryView}

abbrev pub EntryAnswer : Type 0
EntryAnswer = Result (Option EntryView) Refusal

pattern abbrev pub Found : EntryView → EntryAnswer
Found view = Ok (Some view)

pattern abbrev pub End : EntryAnswer
End = Ok None

pattern abbrev pub Refused : Refusal → EntryAnswer
Refused why = Err why
