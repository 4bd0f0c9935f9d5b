-- The definitions' readings of fields in the forms that the calls return: a string by its start and
-- length, a list of strings by their number and the place of the first.
-- To be believed. Assumes nothing.
use Rattle.std.specs.Prelude.{ℤ, length, ℕ}
use Rattle.body_format.specs.Fields.{Field, got, fault, StringField, StringList}
use Rattle.body_fields.specs.Results.NumberRead.{NumberRead}
use Rattle.body_fields.specs.Results.NumberRead as number
use Rattle.body_fields.specs.Results.SignedRead.{SignedRead}
use Rattle.body_fields.specs.Results.SignedRead as signed
use Rattle.body_fields.specs.Results.StringRead.{StringRead}
use Rattle.body_fields.specs.Results.StringRead as string
use Rattle.body_fields.specs.Results.StringListRead.{StringListRead}
use Rattle.body_fields.specs.Results.StringListRead as list

abbrev pub number_read : Field ℕ → NumberRead
number_read (got n next) = number.Got n next
number_read (fault why) = number.Fault why

abbrev pub signed_read : Field ℤ → SignedRead
signed_read (got x next) = signed.Got x next
signed_read (fault why) = signed.Fault why

abbrev pub string_read : Field StringField → StringRead
string_read (got t next) = string.Got t.start (length t.bytes) next
string_read (fault why) = string.Fault why

abbrev pub string_list_read : Field StringList → StringListRead
string_list_read (got l next) = list.Got (length l.strings) l.first next
string_list_read (fault why) = list.Fault why
