-- `depot_wal_read` meets its contract: without a table the checksum is the version's.
use Rattle.std.proofs.Common.{◌≡◌, ap, ◌∙◌, [], ◌∷◌, ℕ, ◌<◌, arith, length}
use Rattle.wal_types.specs.Versions.{version_of}
use Rattle.segment_format.specs.Sums.{version_sum, table_sum}
use Rattle.segment_format.specs.Good.{GoodReader}
use Rattle.depot_wal_results.specs.Segments.{read_code, read_out, good_of, good_out, reader_for}
use Rattle.segment_format.proofs.Instances.{none_lent}
use Rattle.depot_wal_segments.proofs.segments.depot_wal_read.Goals as goal

pub returns : goal.returns
returns c =
    let a = c.args in
    let h : length {A = ℕ} (0 ∷ []) < 2048 = omega arith in
    let e : reader_for (λ v. table_sum v (0 ∷ [])) (version_of a.version) ≡ reader_for version_sum (version_of a.version) =
    λ i. reader_for (λ v. none_lent v (0 ∷ []) h i) (version_of a.version) in
    let told = c.read_as.ensures in (
      told.0 ∙ ap (λ (F : GoodReader). read_code (F a.segment.now a.place a.buffer.now (good_of a.good.now)).read.answer) e,
      told.1 ∙ ap (λ (F : GoodReader). read_out (F a.segment.now a.place a.buffer.now (good_of a.good.now)).read.answer) e,
      told.2 ∙ ap (λ (F : GoodReader). good_out (F a.segment.now a.place a.buffer.now (good_of a.good.now)).read.good) e,
      told.3 ∙ ap (λ (F : GoodReader). (F a.segment.now a.place a.buffer.now (good_of a.good.now)).buffer) e,
    )
