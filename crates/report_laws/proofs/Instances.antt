-- The law of our calls. `log_report::pages::begin` and `take_page` equal the format's page calls with
-- the checksum by the table that is lent; `report_segment` equals `reporter` with the version's
-- checksum. With the table that `crc32c_table::fill_table` fills they give the same.
-- Assumes nothing.
use Rattle.std.specs.Prelude.{◌≡◌, List, ℕ, ◌+◌, ◌*◌, ◌≤◌, ◌<◌, length}
use Rattle.std.proofs.Common.{subst}
use Rattle.crc32c_format.specs.Table.{slice_table}
use Rattle.wal_types.specs.declared.Version.{Version}
use Rattle.wal_types.specs.Results.VersionFound.{Known}
use Rattle.wal_types.specs.Sizes.{page_size, segment_limit}
use Rattle.segment_format.specs.Sums.{version_sum, table_sum}
use Rattle.segment_format.proofs.Laws.Sums.{sum_own}
use Rattle.segment_format.proofs.Laws.Agreeing.{Bytes, read_all-same}
use Rattle.report_format.specs.Adding.{add_segment, report_segment}
use Rattle.report_format.specs.Calls.{CallResult, reporter}
use Rattle.report_format.specs.Paging.{cut_into, pager, beginner}
use Rattle.report_laws.specs.PageClaims.{PageCalls, pages_turn, Over}
use Rattle.report_laws.proofs.Theorems.{by_pages}

-- the checksum of a version by the table that the library fills
abbrev pub own_sum : Version → ℕ → List ℕ → ℕ
own_sum v = table_sum v slice_table

-- with it a segment of bytes is added as with the version's
pub own_reporter : (v : Version) (s b t : List ℕ) → Bytes s → reporter own_sum (Known v) s b t ≡ reporter version_sum (Known v) s b t
unfolding reporter report_segment add_segment
own_reporter v s b t h = rw (read_all-same (table_sum v slice_table) (version_sum v) (sum_own v) s h)

-- what our page calls are, with that table
abbrev pub our_pages : PageCalls
our_pages = record { begin = beginner; page = λ v. pager (table_sum v slice_table) }

-- THE LAW of `begin`, `take_page` and `report_segment`: every segment of bytes, up to the limit, as
-- full pages and then a shorter one; with any record buffer and on any numbers
pub our_pages_lem : (v : Version) (n : ℕ) (s b t : List ℕ) → Bytes s → length s ≤ segment_limit → n * page_size ≤ length s → length s < (n + 1) * page_size
    → Over (List ℕ) (pages_turn our_pages v (cut_into n s) b t) (reporter version_sum (Known v) s b t).number (reporter version_sum (Known v) s b t).place
    (reporter version_sum (Known v) s b t).report
our_pages_lem v n s b t h small least most =
    subst (λ (z : CallResult). Over (List ℕ) (pages_turn our_pages v (cut_into n s) b t) z.number z.place z.report) (own_reporter v s b t h)
    ((by_pages own_sum).same v n s b t small least most)
