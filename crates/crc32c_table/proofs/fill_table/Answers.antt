-- All entries are right, so the table is the definition.
use Rattle.crc32c_format.specs.Method.Tables.{filled-all}
use Rattle.crc32c_table.proofs.fill_table.Goals as goal

pub returns : goal.returns
returns c = filled-all _ c.fill_other_rows.ensures
