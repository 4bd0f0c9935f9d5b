-- The types of a body in the forms that the code returns.
-- To be believed. Assumes nothing.
use Rattle.std.specs.Prelude.{true, false, List, [], ◌∷◌, ℕ}
use Rattle.wal_types.specs.declared.Refusal.TheVariants.{UnknownType, EmptyBody}
use Rattle.body_format.specs.Entries.{BodyType, series, samples, tombstones, exemplars, metadata, histograms}
use Rattle.body_format.specs.Entries.{Known, known, unknown, body_type_of}
use Rattle.body_rows.specs.Rows.{rows_type}
use Rattle.body_plain.specs.declared.PlainType.TheVariants.{Series, Tombstones, Metadata}
use Rattle.body_plain.specs.Plain.{plain_in}
use Rattle.body_reader.specs.declared.tags.BodyLayout.{BodyLayout}
use Rattle.body_reader.specs.declared.tags.BodyLayout.TheVariants.{Rows, Plain, Histograms}
use Rattle.body_reader.specs.Results.TypeRead.{TypeRead}
use Rattle.body_reader.specs.Results.TypeRead as type

abbrev pub type_in : BodyLayout → BodyType
type_in (Rows labelled) = rows_type labelled
type_in (Plain k) = plain_in k
type_in (Histograms k) = histograms k

abbrev pub body_layout : BodyType → BodyLayout
body_layout series = Plain Series
body_layout samples = Rows false
body_layout tombstones = Plain Tombstones
body_layout exemplars = Rows true
body_layout metadata = Plain Metadata
body_layout (histograms k) = Histograms k

abbrev pub type_found : Known → TypeRead
type_found (known k) = type.Known (body_layout k)
type_found unknown = type.Refused UnknownType

-- a body's first refusals (FORMAT 11.1): EmptyBody, UnknownType
unfoldable pub type_read : List ℕ → TypeRead
type_read [] = type.Refused EmptyBody
type_read (b ∷ s) = type_found (body_type_of b)
