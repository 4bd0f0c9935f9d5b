-- How many bytes, or how many times a byte.
-- To be believed. Assumes nothing.
use Rattle.std.specs.Prelude.{ℕ, Option, Some, None}

abbrev pub Count : Type 0
Count = Option ℕ

pattern abbrev pub Of : ℕ → Count
Of n = Some n

pattern abbrev pub Malformed : Count
Malformed = None
