-- A law of the type of rows.
-- Assumes nothing.
use Rattle.std.specs.Prelude.{◌≡◌, refl, Bool, true, false}
use Rattle.body_format.specs.Entries.{has_rows}
use Rattle.body_rows.specs.Rows.{rows_type}

-- both types of rows have rows
pub rows-rows : (labelled : Bool) → has_rows (rows_type labelled) ≡ true
rows-rows false = refl
rows-rows true = refl
