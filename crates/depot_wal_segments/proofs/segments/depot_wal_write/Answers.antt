-- `depot_wal_write` meets its contract: without a table the checksum is the version's.
use Rattle.std.proofs.Common.{◌≡◌, ap, ◌∙◌, [], ◌∷◌, ℕ, ◌<◌, arith, length}
use Rattle.wal_types.specs.Versions.{version_of}
use Rattle.segment_format.specs.Sums.{version_sum, table_sum}
use Rattle.segment_format.specs.Calls.{Writer}
use Rattle.depot_wal_results.specs.Segments.{write_code, write_out, writer_for}
use Rattle.segment_format.proofs.Instances.{none_lent}
use Rattle.depot_wal_segments.proofs.segments.depot_wal_write.Goals as goal

pub returns : goal.returns
returns c =
    let a = c.args in
    let h : length {A = ℕ} (0 ∷ []) < 2048 = omega arith in
    let e : writer_for (λ v. table_sum v (0 ∷ [])) (version_of a.version) ≡ writer_for version_sum (version_of a.version) =
    λ i. writer_for (λ v. none_lent v (0 ∷ []) h i) (version_of a.version) in
    let told = c.write_as.ensures in (
      told.0 ∙ ap (λ (W : Writer). write_code (W a.segment.now a.place a.«record».now).answer) e,
      told.1 ∙ ap (λ (W : Writer). write_out a.place (W a.segment.now a.place a.«record».now).answer) e,
      told.2 ∙ ap (λ (W : Writer). (W a.segment.now a.place a.«record».now).slice) e,
    )
