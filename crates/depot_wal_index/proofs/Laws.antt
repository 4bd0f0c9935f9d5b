-- Laws: an index call's numbers are those of a write whose next place is where the index ends, of
-- a body's check, and of a string. So depot_wal_results stores them.
use Rattle.std.specs.Prelude.{◌≡◌, refl, Ok, Err, ℕ}
use Rattle.std.specs.Result.{result_map_both}
use Rattle.wal_types.specs.Terms.{offset}
use Rattle.index_format.specs.Results.IndexAnswer.{IndexAnswer}
use Rattle.index_format.specs.Results.CheckAnswer.{CheckAnswer}
use Rattle.index_format.specs.Results.RowAnswer.{RowAnswer}
use Rattle.depot_wal_results.specs.Segments.{write_code, write_out}
use Rattle.depot_wal_results.specs.Bodies.{check_code as body_code, check_out as body_out, string_code, string_out}
use Rattle.depot_wal_index.specs.Results.{index_code, index_out, check_code, check_out, row_code, row_out}

pub index-code : (a : IndexAnswer) → index_code a ≡ write_code (result_map_both offset (λ why. why) a)
index-code (Ok n) = refl
index-code (Err why) = refl

pub index-out : (given : ℕ) (a : IndexAnswer) → index_out given a ≡ write_out given (result_map_both offset (λ why. why) a)
index-out given (Ok n) = refl
index-out given (Err why) = refl

pub check-code : (a : CheckAnswer) → check_code a ≡ body_code a
check-code a = refl

pub check-out : (a : CheckAnswer) → check_out a ≡ body_out a
check-out a = refl

pub row-code : (a : RowAnswer) → row_code a ≡ string_code a
row-code a = refl

pub row-out : (a : RowAnswer) → row_out a ≡ string_out a
row-out a = refl
