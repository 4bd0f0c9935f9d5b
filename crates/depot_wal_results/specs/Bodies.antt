-- The answers of building and reading a body as C gets them: what the call returns, and what it
-- leaves in `out`.
-- To be believed. Assumes nothing.
use Rattle.std.specs.Prelude.{List, [], ◌∷◌, ℕ}
use Rattle.wal_types.specs.Refusals.{number_of, place_of}
use Rattle.wal_types.specs.Deltas.{to_bits}
use Rattle.body_builder.specs.Results.Added.{Added}
use Rattle.body_builder.specs.Results.Added.{Next, Refused}
use Rattle.body_format.specs.Results.CheckAnswer.{CheckAnswer}
use Rattle.body_format.specs.Results.CheckAnswer.{Entries, Refused as CheckRefused}
use Rattle.body_format.specs.Results.EntryAnswer.{EntryAnswer}
use Rattle.body_format.specs.Results.EntryAnswer.{Found as EntryFound, End, Refused as EntryRefused}
use Rattle.body_format.specs.Results.StringAnswer.{StringAnswer}
use Rattle.body_format.specs.Results.StringAnswer.{Found as StringFound, Refused as StringRefused}

-- starting and adding: 0, else the status number (FORMAT 12.1)
abbrev pub added_code : Added → ℕ
added_code (Next state) = 0
added_code (Refused why) = number_of why

-- the bytes then used, after a refusal those that were given; then the refusal's place, else 0
abbrev pub added_out : ℕ → Added → List ℕ
added_out given (Next state) = state.used.0 ∷ 0 ∷ []
added_out given (Refused why) = given ∷ (place_of why).0 ∷ []

-- checking: the number of entries, or the refusal's place
abbrev pub check_code : CheckAnswer → ℕ
check_code (Entries n) = 0
check_code (CheckRefused why) = number_of why

abbrev pub check_out : CheckAnswer → List ℕ
check_out (Entries n) = n ∷ []
check_out (CheckRefused why) = (place_of why).0 ∷ []

-- an entry: tag, id, time or min, max, value bits, metric type or sum, string count, where the strings
-- begin, place after; times in two's complement. The plain end: zeros. A refusal: its place, then
-- zeros.
abbrev pub entry_code : EntryAnswer → ℕ
entry_code (EntryFound e) = 0
entry_code End = 200
entry_code (EntryRefused why) = number_of why

abbrev pub entry_out : EntryAnswer → List ℕ
entry_out (EntryFound e) =
    e.tag ∷ e.id.0 ∷ to_bits e.time.0 ∷ to_bits e.max.0 ∷ e.bits ∷ e.strings ∷ e.first.0 ∷ e.next.0 ∷ []
entry_out End = 0 ∷ 0 ∷ 0 ∷ 0 ∷ 0 ∷ 0 ∷ 0 ∷ 0 ∷ []
entry_out (EntryRefused why) = (place_of why).0 ∷ 0 ∷ 0 ∷ 0 ∷ 0 ∷ 0 ∷ 0 ∷ 0 ∷ []

-- a string: start and length
abbrev pub string_code : StringAnswer → ℕ
string_code (StringFound start n) = 0
string_code (StringRefused why) = number_of why

abbrev pub string_out : StringAnswer → List ℕ
string_out (StringFound start n) = start.0 ∷ n ∷ []
string_out (StringRefused why) = (place_of why).0 ∷ 0 ∷ []
