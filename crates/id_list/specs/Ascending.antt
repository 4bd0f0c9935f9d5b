-- Lists of ids in ascending order, in which an id that is not there is told by its neighbours.
-- To be believed. Assumes nothing.
use Rattle.std.specs.Prelude.{Bool, true, ◌&&◌, List, [], ◌∷◌, ℕ, leb}

-- each id is at least the one before, and the first at least x
unfoldable pub ascends_from : ℕ → List ℕ → Bool
ascends_from x [] = true
ascends_from x (y ∷ ids) = leb x y && ascends_from y ids

-- no id is below the one before it; an id may be repeated
unfoldable pub is_ascending : List ℕ → Bool
is_ascending ids = ascends_from 0 ids
