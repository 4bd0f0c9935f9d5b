-- The answer of `depot_wal_pages_for` as C gets it: what the call returns, and what it leaves in
-- `out`.
-- To be believed. Assumes nothing.
use Rattle.std.specs.Prelude.{List, [], ◌∷◌, ℕ}
use Rattle.wal_types.specs.Refusals.{number_of, place_of}
use Rattle.size_format.specs.Results.PagesAnswer.{PagesAnswer}
use Rattle.size_format.specs.Results.PagesAnswer.{Pages, Refused}

-- 0, or the status number (FORMAT 12.1)
abbrev pub pages_code : PagesAnswer → ℕ
pages_code (Pages k) = 0
pages_code (Refused why) = number_of why

-- the pages, or the refusal's place
abbrev pub pages_out : PagesAnswer → List ℕ
pages_out (Pages k) = k ∷ []
pages_out (Refused why) = (place_of why).0 ∷ []
