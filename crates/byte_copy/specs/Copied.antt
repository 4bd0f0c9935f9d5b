-- Defines what a slice holds after bytes of another slice are copied to it.
-- To be believed. Assumes nothing.
use Rattle.std.specs.Prelude.{ℕ, ◌+◌, cond, ◌&&◌, List, leb, length, take, drop}
use Rattle.std.proofs.lemmas.List.Edits.{sets}

-- t with the n bytes of s from `from` on stored at place `at`, and all others as they were; where s
-- or t is too short for that, t
unfoldable pub copied : List ℕ → ℕ → ℕ → List ℕ → ℕ → List ℕ
copied s from n t at = cond (leb (from + n) (length s) && leb (at + n) (length t)) (sets t at (take n (drop from s))) t
