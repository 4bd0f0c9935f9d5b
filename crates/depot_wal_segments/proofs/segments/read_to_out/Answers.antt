-- `count_read` has room for one record more; the table and the segment are passed on whole.
use Rattle.std.proofs.Common.{sym, subst}
use Rattle.crc32c_format.specs.Laws.{whole_part}
use Rattle.segment_format.specs.declared.Read.{Read}
use Rattle.segment_format.specs.Sums.{table_sum}
use Rattle.segment_format.proofs.Laws.Counted.{Counts, read-counts}
use Rattle.depot_wal_results.specs.Segments.{good_of}
use Rattle.depot_wal_segments.proofs.segments.read_to_out.Goals as goal

pub count_read-requires : goal.count_read-requires
count_read-requires c =
    let a = c.args in
    let done = rw (whole_part a.table.now, whole_part a.segment.now, c.good_of-given.ensures) at c.read_with_table-read.ensures in
    subst (λ (r : Read). Counts r.answer (good_of a.good.now)) (sym done.0)
    (read-counts (table_sum a.version a.table.now) a.segment.now a.place a.buffer.now (good_of a.good.now))
