-- Request 12 (docs/CLAIMS.md): what is claimed of any calls that add a segment to a report page by
-- page. The format's own keep it for every checksum (Theorems), and so ours agree, each with its
-- checksum (Instances); the stand-ins do not (StandIns).
-- To be believed. Assumes nothing.
use Rattle.std.specs.Prelude.{◌≡◌, true, List, [], ◌∷◌, ℕ, ◌+◌, ◌*◌, ◌≤◌, ◌<◌, length}
use Rattle.wal_types.specs.declared.Version.{Version}
use Rattle.wal_types.specs.Results.VersionFound.{Known}
use Rattle.wal_types.specs.Sizes.{page_size, segment_limit}
use Rattle.report_format.specs.declared.PageReport.{PageReport}
use Rattle.report_format.specs.Calls.{reporter}
use Rattle.report_format.specs.Paging.{Turn, turn, Begun, cut_into, beginner, pager}

-- what the claim is about: the beginning of a segment, on the report's 1,284 numbers, and a page more,
-- of a version, from the state last handed back, the page, the record buffer and the report's numbers
pub record PageCalls : Type 0 where
  pub begin : List ℕ → Begun (List ℕ)
  pub page : Version → PageReport → List ℕ → List ℕ → List ℕ → Turn (List ℕ)

-- the format's own (FORMAT 22.9)
abbrev pub page_calls : (Version → ℕ → List ℕ → ℕ) → PageCalls
page_calls sums = record { begin = beginner; page = λ v. pager (sums v) }

module _ (C : PageCalls) (v : Version) where
  -- pages one after the other, each call with the state, the record buffer and the numbers that the
  -- last one left
  unfoldable pub pages_from : PageReport → List (List ℕ) → List ℕ → List ℕ → Turn (List ℕ)
  pages_from x [] b t = turn (List ℕ) x t b
  pages_from x (page ∷ more) b t =
      pages_from (C.page v x page b t).state more (C.page v x page b t).buffer (C.page v x page b t).report

  -- a segment: its beginning, and then its pages
  abbrev pub pages_turn : List (List ℕ) → List ℕ → List ℕ → Turn (List ℕ)
  pages_turn pages b t = pages_from (C.begin t).state pages b (C.begin t).report

-- a segment is over, with that answer, and has left the report r
pub record Over (R : Type 0) (y : Turn R) (n p : ℕ) (r : R) : Type 0 where
  pub over : y.state.over ≡ true
  pub number : y.state.number ≡ n
  pub place : y.state.place ≡ p
  pub report : y.report ≡ r

-- THE CLAIM
pub record ByPages (sums : Version → ℕ → List ℕ → ℕ) (C : PageCalls) : Type 0 where
  -- Every segment of at most 134,217,728 bytes that is added page by page, as full pages and then a
  -- shorter one, is over after the last of them; it is answered, and has left the report, as by the one
  -- call with the whole segment: with any record buffer and on any numbers, those of a report that has
  -- ended, that is full or that no call handed out among them.
  pub same : (v : Version) (n : ℕ) (s b t : List ℕ) → length s ≤ segment_limit → n * page_size ≤ length s → length s < (n + 1) * page_size
      → Over (List ℕ) (pages_turn C v (cut_into n s) b t) (reporter sums (Known v) s b t).number (reporter sums (Known v) s b t).place (reporter sums (Known v) s b t).report
