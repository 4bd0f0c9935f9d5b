-- `update3` meets its contract: three steps of one byte.
use Rattle.std.proofs.Common.{arith, sym, ◌∙◌}
use Rattle.crc32c_format.specs.Laws.{register_by-short, register_by-lent}
use Rattle.crc32c_format.specs.Method.Slicing.{table_register_three}
use Rattle.crc32c.proofs.update3.Goals as goal

pub returns-then-table-lt2048 : goal.returns-then-table-lt2048
returns-then-table-lt2048 c =
    let a = c.args in
    c.short.ensures ∙ sym (register_by-short a.table.now a.state _ (omega arith))

pub returns : goal.returns
returns c =
    let a = c.args in
    table_register_three a.table.now a.state a.first a.second a.third c.table_byte-a.ensures c.table_byte-b.ensures c.table_byte.ensures
    ∙ sym (register_by-lent a.table.now a.state _ (omega arith) (omega arith))
