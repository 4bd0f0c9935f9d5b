-- FORMAT 22.10: what the program decides: of a segment that adds nothing, and of a line of the report.
-- To be believed. Assumes nothing.
use Rattle.std.specs.Prelude.{◌≡◌, Ok, Bool, cond, List, ℕ, get_or, ltb, leb, eqb}
use Rattle.wal_types.specs.declared.Refusal.TheVariants.{BadBuffer, BadName}
use Rattle.wal_types.specs.Refusals.{number_of}
use Rattle.wal_types.specs.Sizes.{segment_limit}
use Rattle.report_format.specs.declared.PageReport.{PageReport}
use Rattle.report_format.specs.declared.Reported.{Reported}
use Rattle.report_format.specs.Readings.{Line}
use Rattle.report_format.specs.Adding.{night_limit}
use Rattle.report_format.specs.Paging.{beginner}
use Rattle.reporting.specs.Taken.{Taken, Segment, Nothing}
use Rattle.reporting.specs.declared.lines.Shown.{Shown}

abbrev pub answer : ℕ → ℕ → Reported
answer n p = record { number = n; place = p }

-- ---- a segment that adds nothing

-- begun with the state x, it has that one's answer if it is over at once (22.6), and n at 0 otherwise
abbrev pub answered : PageReport → ℕ → Reported
answered x n = cond x.over (answer x.number x.place) (answer n 0)

abbrev pub unadded : ℕ → List ℕ → Reported
unadded n t = answered (beginner t).state n

-- a file of so many bytes: too long; not to be read to its end; or a segment, with its answer
abbrev pub judged : ℕ → Bool → ℕ → ℕ → Taken
judged total failed n p =
    cond (ltb segment_limit total) (Nothing (number_of BadBuffer)) (cond failed (Nothing (number_of BadName)) (Segment n p))

-- The numbers were t before a file, and are u after it. The answer r and the numbers w: a segment's
-- stay; one that adds nothing is begun on t, whatever stands in it.
abbrev pub Settled : Taken → List ℕ → List ℕ → Reported → List ℕ → Type 0
Settled (Ok a) t u r w = (r ≡ a) × (w ≡ u)
Settled (Nothing n) t u r w = (r ≡ unadded n t) × (w ≡ (beginner t).report)

-- ---- the report

-- it has not ended; and it has 1,024 segments
abbrev pub going_on : List ℕ → Bool
going_on t = eqb (get_or t 2 0) 0

abbrev pub all_taken : List ℕ → Bool
all_taken t = leb night_limit (get_or t 1 0)

-- ---- its lines

-- a segment that was not refused and is not torn has no line
abbrev pub was_good : Reported → Bool
was_good r = eqb r.number 0

-- every row of a series is NaN, so that it has no extremes
abbrev pub all_nan : ℕ → ℕ → Bool
all_nan rows nans = eqb rows nans

-- the numbers of a series, as they are printed
abbrev pub shown : Line → Shown
shown l = record { id = l.id; rows = l.rows; nans = l.nans; smallest = l.smallest; largest = l.largest }
