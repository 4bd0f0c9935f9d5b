-- A read's and a write's answer as C gets them: what the call returns, and what it leaves in `out`.
-- To be believed. Assumes nothing.
use Rattle.std.specs.Prelude.{Some, Ok, List, [], ◌∷◌, ℕ, get_or}
use Rattle.wal_types.specs.Refusals.{number_of, place_of}
use Rattle.wal_types.specs.declared.Refusal.TheVariants.{BadName}
use Rattle.wal_types.specs.declared.Version.{Version}
use Rattle.wal_types.specs.Results.VersionFound.{VersionFound}
use Rattle.wal_types.specs.Results.VersionFound.{Known, Unknown}
use Rattle.segment_format.specs.declared.Good.{Good}
use Rattle.segment_format.specs.Good.{good, GoodReader, good_reader}
use Rattle.segment_format.specs.Calls.{Writer, writer}
use Rattle.segment_format.specs.Results.ReadAnswer.{ReadAnswer}
use Rattle.segment_format.specs.Results.ReadAnswer.{End, Refused}
use Rattle.segment_format.specs.Results.WriteAnswer.{WriteAnswer}
use Rattle.segment_format.specs.Results.WriteAnswer.{Next, Refused as WriteRefused}

-- 0 for a record, 200 for a clean end, else the status number (FORMAT 12.1)
abbrev pub read_code : ReadAnswer → ℕ
read_code (Ok (Some r)) = 0
read_code End = 200
read_code (Refused why) = number_of why

-- a record: its start, length and the place after it; an end: zeros; a refusal: its place, then
-- zeros
abbrev pub read_out : ReadAnswer → List ℕ
read_out (Ok (Some r)) = r.start.0 ∷ r.length ∷ r.next.0 ∷ []
read_out End = 0 ∷ 0 ∷ 0 ∷ []
read_out (Refused why) = (place_of why).0 ∷ 0 ∷ 0 ∷ []

-- the good length in C (FORMAT 6.14): the number of records, then the offset
abbrev pub good_of : List ℕ → Good
good_of s = good (get_or s 0 0) (get_or s 1 0)

abbrev pub good_out : Good → List ℕ
good_out g = g.records ∷ g.offset.0 ∷ []

-- 0 for a write that was done, else the status number (FORMAT 12.1)
abbrev pub write_code : WriteAnswer → ℕ
write_code (Next q) = 0
write_code (WriteRefused why) = number_of why

-- the place for the next write, after a refusal the place p that was given; then the refusal's
-- place, else 0
abbrev pub write_out : ℕ → WriteAnswer → List ℕ
write_out p (Next q) = q.0 ∷ 0 ∷ []
write_out p (WriteRefused why) = p ∷ (place_of why).0 ∷ []

-- ---- by the number of a version (FORMAT 1.4)

-- the format's reader and writer of a version, with the checksum that `sums` gives for it; a number
-- that no version has is BadName, before everything else, and nothing changes
abbrev pub reader_for : (Version → ℕ → List ℕ → ℕ) → VersionFound → GoodReader
reader_for sums (Known v) s p b g = good_reader (sums v) s p b g
reader_for sums Unknown s p b g = record { read = record { answer = Refused BadName; good = g }; buffer = b }

abbrev pub writer_for : (Version → ℕ → List ℕ → ℕ) → VersionFound → Writer
writer_for sums (Known v) s p d = writer (sums v) s p d
writer_for sums Unknown s p d = record { answer = WriteRefused BadName; slice = s }
