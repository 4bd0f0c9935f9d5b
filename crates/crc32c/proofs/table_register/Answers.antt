-- `table_register` meets its contract: its three loops are the definition's three runs of steps.
use Rattle.crc32c_format.specs.Method.Slicing.{table_register_of}
use Rattle.crc32c.proofs.table_register.Goals as goal

pub returns : goal.returns
returns c =
    let a = c.args in
    table_register_of a.t.now a.s.now a.state c.table_eights-a.ensures c.table_four-b.ensures c.table_singles.ensures
