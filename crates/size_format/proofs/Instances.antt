-- The claim holds of the calls, of each version: of `write` and `pages_for`, whose contracts are the
-- format's with the version's checksum, and of `write_with_table`, whatever the table holds, with the
-- checksum by that table.
-- Assumes nothing.
use Rattle.std.specs.Prelude.{List, ℕ}
use Rattle.wal_types.specs.declared.Version.{Version}
use Rattle.segment_format.specs.Sums.{version_sum, table_sum}
use Rattle.size_format.specs.Size.{size_calls}
use Rattle.size_format.specs.Claims.{Sizes}
use Rattle.size_format.proofs.Theorems.{sizes}

pub plain-sizes : (v : Version) → Sizes (version_sum v) (size_calls (version_sum v))
plain-sizes v = sizes (version_sum v)

pub table-sizes : (v : Version) (t : List ℕ) → Sizes (table_sum v t) (size_calls (table_sum v t))
table-sizes v t = sizes (table_sum v t)
