-- The bytes that strings take; or one of them cannot be read.
-- To be believed. Assumes nothing.
use Rattle.std.specs.Prelude.{ℕ, Option, Some, None}

abbrev pub Taken : Type 0
Taken = Option ℕ

pattern abbrev pub Size : ℕ → Taken
Size size = Some size

pattern abbrev pub Bad : Taken
Bad = None
