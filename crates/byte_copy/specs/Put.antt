-- Defines what a slice holds after bytes are stored in it, and the place that the call returns.
-- To be believed. Assumes nothing.
use Rattle.std.specs.Prelude.{ℕ, ◌+◌, true, false, List, leb, length}
use Rattle.std.proofs.lemmas.List.Edits.{sets}

-- d with the bytes vs from place `at` on and all others as they were; where vs does not fit, d
unfoldable pub put_at : List ℕ → ℕ → List ℕ → List ℕ
put_at d at vs = elim (leb (at + length vs) (length d)) [ true ↦ sets d at vs | false ↦ d ]

-- the place after vs; where vs does not fit, the place given
unfoldable pub put_end : List ℕ → ℕ → List ℕ → ℕ
put_end d at vs = elim (leb (at + length vs) (length d)) [ true ↦ at + length vs | false ↦ at ]
