-- A count of bytes that a segment has room for; no condition where the input is malformed.
-- Assumes nothing.
use Rattle.std.specs.Prelude.{ℕ, ◌≤◌}
use Rattle.test_damage.specs.Results.Count.{Count}
use Rattle.test_damage.specs.Results.Count.{Of, Malformed}

abbrev pub Fits : Count → ℕ → Type 0
Fits (Of n) room = n ≤ room
Fits Malformed room = Unit {0}
