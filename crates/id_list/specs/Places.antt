-- Where an id is in a list, or would be.
-- Assumes nothing.
use Rattle.std.specs.Prelude.{ℕ, ◌+◌, ◌≤◌, ◌<◌, List, length, get_or}

-- the id at a place is not above this one, and the id after it, if there is one, is above
pub record Below (ids : List ℕ) (id place : ℕ) : Type 0 where
  pub inside : place < length ids
  pub here : get_or ids place 0 ≤ id
  pub next : place + 1 < length ids → id < get_or ids (place + 1) 0
