-- Rows as the calls name them: their type by whether they have labels, the head of one, and the
-- place where they begin.
-- To be believed. Assumes nothing.
use Rattle.std.specs.Prelude.{Bool, true, false, ℕ}
use Rattle.wal_types.specs.Terms.{series_id, timestamp}
use Rattle.body_format.specs.Fields.{Field, got, fault}
use Rattle.body_format.specs.Heads.{Head}
use Rattle.body_format.specs.Entries.{BodyType, samples, exemplars}
use Rattle.body_fields.specs.Results.Place.{Place}
use Rattle.body_fields.specs.Results.Place.{At, Fault}
use Rattle.body_rows.specs.Results.HeadRead.{HeadRead}
use Rattle.body_rows.specs.Results.HeadRead as head

-- rows with labels are exemplars, rows without are samples
abbrev pub rows_type : Bool → BodyType
rows_type false = samples
rows_type true = exemplars

-- the place that a field's value is
abbrev pub place_read : Field ℕ → Place
place_read (got p next) = At p
place_read (fault why) = Fault why

-- the head of a row
abbrev pub head_read : Field Head → HeadRead
head_read (got h next) = head.Got (series_id h.id) (timestamp h.time) next
head_read (fault why) = head.Fault why
