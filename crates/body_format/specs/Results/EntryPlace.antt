-- Where the entry of a place is: there, the plain end of the body, or the refusal (FORMAT 11.3).
-- To be believed. Assumes nothing.
use Rattle.std.specs.Prelude.{Option, Some, None, Result, Ok, Err}
use Rattle.wal_types.specs.declared.Offset.{Offset}
use Rattle.wal_types.specs.declared.Refusal.{Refusal}

abbrev pub EntryPlace : Type 0
EntryPlace = Result (Option Offset) Refusal

pattern abbrev pub At : Offset → EntryPlace
At place = Ok (Some place)

pattern abbrev pub End : EntryPlace
End = Ok None

pattern abbrev pub Refused : Refusal → EntryPlace
Refused why = Err why
