-- The bucket kind that a body has, or the refusal.
-- To be believed. Assumes nothing.
use Rattle.std.specs.Prelude.{Result, Ok, Err}
use Rattle.wal_types.specs.declared.Refusal.{Refusal}
use Rattle.body_format.specs.declared.BucketKind.{BucketKind}

abbrev pub KindRead : Type 0
KindRead = Result BucketKind Refusal

pattern abbrev pub Known : BucketKind → KindRead
Known kind = Ok kind

pattern abbrev pub Refused : Refusal → KindRead
Refused why = Err why
