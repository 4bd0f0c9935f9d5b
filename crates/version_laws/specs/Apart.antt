-- FORMAT 21.4: what is claimed of the two versions together. A segment that was written in one and is
-- read as the other gives nothing, instead of something wrong. The format's calls keep it (Theorems);
-- the stand-ins do not (StandIns). Of a segment that was not written here nothing is claimed.
-- To be believed. Assumes nothing.
use Rattle.std.specs.Prelude.{◌≡◌, List, [], ◌++◌, ℕ, ◌≤◌, length, take}
use Rattle.wal_types.specs.declared.Refusal.TheVariants.{BadSum}
use Rattle.wal_types.specs.Terms.{offset}
use Rattle.wal_types.specs.Sizes.{segment_limit}
use Rattle.segment_format.specs.Results.ReadAnswer.{Refused}
use Rattle.segment_format.specs.Calls.{Reader, Writer, SegmentCalls, Gives, final_slice, written, survivors}
use Rattle.wal_types.specs.declared.Version.TheVariants.{One, Two}
use Rattle.segment_format.specs.Sums.{version_sum}
use Rattle.segment_format.specs.Claims.{Demand3}

-- Any list of writes by W, refused ones included, whatever the slice held before, cut anywhere and
-- followed by any bytes up to the limit: where a record lies wholly before the cut c, a reading from
-- the start by R gives no record, and is BadSum at the first fragment.
abbrev pub Refuses : Reader → Writer → Type 0
Refuses R W =
    (s : List ℕ) (ds : List (List ℕ)) (c : ℕ) (more : List ℕ)
    → (survivors c (written W s 0 ds) ≡ [] → ⊥)
    → length (take c (final_slice W s 0 ds) ++ more) ≤ segment_limit
    → Gives R (take c (final_slice W s 0 ds) ++ more) [] (Refused (BadSum (offset 0)))

-- of the calls of version 1 and those of version 2
pub record Apart (one two : SegmentCalls) : Type 0 where
  -- each of them keeps the demands with its own checksum: a reader that refuses everything would
  -- keep the rest
  pub first : Demand3 (version_sum One) one
  pub second : Demand3 (version_sum Two) two
  -- what one wrote the other refuses
  pub forth : Refuses two.read one.write
  pub back : Refuses one.read two.write
