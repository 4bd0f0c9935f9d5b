-- The bytes that a string takes, and the place after it in the other body; or it cannot be read.
-- To be believed. Assumes nothing.
use Rattle.std.specs.Prelude.{ℕ, Option, Some, None}

abbrev pub Measured : Type 0
Measured = Option (ℕ × ℕ)

pattern abbrev pub Got : ℕ → ℕ → Measured
Got size next = Some (size, next)

pattern abbrev pub Bad : Measured
Bad = None
