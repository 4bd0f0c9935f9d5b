-- A form that the private functions return: strings counted as they are found.
-- Assumes nothing.
use Rattle.std.specs.Prelude.{List, ℕ, ◌+◌, length}
use Rattle.body_format.specs.Fields.{Field, got, fault}
use Rattle.body_fields.specs.Results.StringListRead.{StringListRead}
use Rattle.body_fields.specs.Results.StringListRead as list

-- strings in a row, after `count` others of a list whose first begins at `first`
abbrev pub tally : ℕ → ℕ → Field (List (List ℕ)) → StringListRead
tally first count (got ts next) = list.Got (count + length ts) first next
tally first count (fault why) = list.Fault why
