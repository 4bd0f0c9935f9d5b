-- A law of the types without rows.
-- Assumes nothing.
use Rattle.std.specs.Prelude.{◌≡◌, refl, false}
use Rattle.body_format.specs.Entries.{has_rows}
use Rattle.body_plain.specs.declared.PlainType.{PlainType}
use Rattle.body_plain.specs.declared.PlainType.TheVariants.{Series, Tombstones, Metadata}
use Rattle.body_plain.specs.Plain.{plain_in}

-- none of them has rows
pub plain-plain : (k : PlainType) → has_rows (plain_in k) ≡ false
plain-plain Series = refl
plain-plain Tombstones = refl
plain-plain Metadata = refl
