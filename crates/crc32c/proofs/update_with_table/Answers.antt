-- `update_with_table` meets its contract: each branch is a case of the definition.
use Rattle.std.proofs.Common.{arith, sym, ◌∙◌}
use Rattle.crc32c_format.specs.Laws.{register_by-short, register_by-long, register_by-lent}
use Rattle.crc32c.proofs.update_with_table.Goals as goal

pub returns-then-bytes-ge-LONG : goal.returns-then-bytes-ge-LONG
returns-then-bytes-ge-LONG c =
    let a = c.args in
    c.long_register.ensures ∙ sym (register_by-long a.table.now a.state a.bytes.now (omega arith))

pub returns-then-table-lt2048 : goal.returns-then-table-lt2048
returns-then-table-lt2048 c =
    let a = c.args in
    c.short.ensures ∙ sym (register_by-short a.table.now a.state a.bytes.now (omega arith))

pub returns-else-table-lt2048 : goal.returns-else-table-lt2048
returns-else-table-lt2048 c =
    let a = c.args in
    c.register_by_table.ensures ∙ sym (register_by-lent a.table.now a.state a.bytes.now (omega arith) (omega arith))
