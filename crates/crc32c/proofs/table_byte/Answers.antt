-- `table_byte` meets its contract: one byte by a caller's table is the definition.
use Rattle.crc32c_format.specs.TableSum.{table_step1}
use Rattle.crc32c.proofs.table_byte.Goals as goal

pub returns : goal.returns
unfolding table_step1
returns c = cc c.wide32.ensures.0
