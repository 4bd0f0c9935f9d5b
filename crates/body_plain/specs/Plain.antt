-- The types without rows as the calls name them.
-- To be believed. Assumes nothing.
use Rattle.body_format.specs.Entries.{BodyType, series, tombstones, metadata}
use Rattle.body_plain.specs.declared.PlainType.{PlainType}
use Rattle.body_plain.specs.declared.PlainType.TheVariants.{Series, Tombstones, Metadata}

abbrev pub plain_in : PlainType → BodyType
plain_in Series = series
plain_in Tombstones = tombstones
plain_in Metadata = metadata
