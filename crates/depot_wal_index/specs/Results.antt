-- The answers of the index calls as C gets them: what a call returns, and what it leaves in `out`.
-- To be believed. Assumes nothing.
use Rattle.std.specs.Prelude.{List, [], ◌∷◌, ℕ}
use Rattle.wal_types.specs.Refusals.{number_of, place_of}
use Rattle.wal_types.specs.declared.Refusal.TheVariants.{BadName}
use Rattle.wal_types.specs.Results.VersionFound.{VersionFound}
use Rattle.wal_types.specs.Results.VersionFound.{Known, Unknown}
use Rattle.segment_format.specs.Sums.{version_sum}
use Rattle.index_format.specs.Calls.{IndexResult, unindexed, builder, checker, extender}
use Rattle.index_format.specs.Results.IndexAnswer.{IndexAnswer}
use Rattle.index_format.specs.Results.IndexAnswer.{Length, Refused}
use Rattle.index_format.specs.Results.CheckAnswer.{CheckAnswer}
use Rattle.index_format.specs.Results.CheckAnswer.{Accepted, Refused as Unaccepted}
use Rattle.index_format.specs.Results.RowAnswer.{RowAnswer}
use Rattle.index_format.specs.Results.RowAnswer.{Row, Refused as NoRow}

-- ---- by the version of a number: where there is none it is BadName, before everything else, and
-- no byte changes (FORMAT 1.4)

abbrev pub builder_for : VersionFound → List ℕ → List ℕ → IndexResult
builder_for (Known v) s b = builder (version_sum v) s b
builder_for Unknown s b = unindexed BadName b

abbrev pub checker_for : VersionFound → List ℕ → List ℕ → CheckAnswer
checker_for (Known v) s x = checker (version_sum v) s x
checker_for Unknown s x = Unaccepted BadName

abbrev pub extender_for : VersionFound → List ℕ → List ℕ → ℕ → IndexResult
extender_for (Known v) s b used = extender (version_sum v) s b used
extender_for Unknown s b used = unindexed BadName b

-- ---- the answers

-- 0, or the status number (FORMAT 12.1)
abbrev pub index_code : IndexAnswer → ℕ
index_code (Length n) = 0
index_code (Refused why) = number_of why

-- the bytes of the index, after a refusal as many as were given; then the refusal's place, else 0
abbrev pub index_out : ℕ → IndexAnswer → List ℕ
index_out given (Length n) = n ∷ 0 ∷ []
index_out given (Refused why) = given ∷ (place_of why).0 ∷ []

abbrev pub check_code : CheckAnswer → ℕ
check_code (Accepted n) = 0
check_code (Unaccepted why) = number_of why

-- the records that the index lists, or the refusal's place
abbrev pub check_out : CheckAnswer → List ℕ
check_out (Accepted n) = n ∷ []
check_out (Unaccepted why) = (place_of why).0 ∷ []

abbrev pub row_code : RowAnswer → ℕ
row_code (Row start n) = 0
row_code (NoRow why) = number_of why

-- start and length, or the refusal's place and 0
abbrev pub row_out : RowAnswer → List ℕ
row_out (Row start n) = start.0 ∷ n ∷ []
row_out (NoRow why) = (place_of why).0 ∷ 0 ∷ []
