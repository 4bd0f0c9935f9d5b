-- The answers of the calls about a name as C gets them: what a call returns, and what it leaves in
-- `out`.
-- To be believed. Assumes nothing.
use Rattle.std.specs.Prelude.{Ok, List, [], ◌∷◌, ℕ}
use Rattle.wal_types.specs.Refusals.{number_of, place_of}
use Rattle.name_format.specs.Results.ParseAnswer.{ParseAnswer}
use Rattle.name_format.specs.Results.ParseAnswer.{Refused}
use Rattle.name_format.specs.Results.MakeAnswer.{MakeAnswer}
use Rattle.name_format.specs.Results.MakeAnswer.{Length, Refused as Unmade}

-- 0, or the status number (FORMAT 12.1)
abbrev pub parse_code : ParseAnswer → ℕ
parse_code (Ok r) = 0
parse_code (Refused why) = number_of why

-- sequence and version, or the refusal's place and 0
abbrev pub parse_out : ParseAnswer → List ℕ
parse_out (Ok r) = r.sequence ∷ r.version ∷ []
parse_out (Refused why) = (place_of why).0 ∷ 0 ∷ []

abbrev pub make_code : MakeAnswer → ℕ
make_code (Length n) = 0
make_code (Unmade why) = number_of why

-- the bytes of the name, 0 after a refusal; then the refusal's place, else 0
abbrev pub make_out : MakeAnswer → List ℕ
make_out (Length n) = n ∷ 0 ∷ []
make_out (Unmade why) = 0 ∷ (place_of why).0 ∷ []
