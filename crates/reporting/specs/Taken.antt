-- What a file was read to be: a segment, with its answer; or that it adds nothing, and the number that
-- says so.
-- To be believed. Assumes nothing.
use Rattle.std.specs.Prelude.{ℕ, Result, Ok, Err}
use Rattle.wal_types.specs.declared.Refusal.{Refusal}
use Rattle.wal_types.specs.Refusals.{number_of}
use Rattle.report_format.specs.declared.Reported.{Reported}

abbrev pub Taken : Type 0
Taken = Result Reported ℕ

abbrev pub Segment : ℕ → ℕ → Taken
Segment n p = Ok (record { number = n; place = p })

pattern abbrev pub Nothing : ℕ → Taken
Nothing n = Err n

-- a refusal is said by its number
abbrev pub numbered : Result Reported Refusal → Taken
numbered (Ok a) = Ok a
numbered (Err why) = Nothing (number_of why)
