-- `table_step8` meets its contract: eight bytes by a caller's table.
use Rattle.crc32c_format.specs.Method.Slicing.{table_step8-at}
use Rattle.crc32c.proofs.table_step8.Goals as goal

pub returns : goal.returns
returns c =
    let b = c in
    let a = b.args in
    table_step8-at a.t.now a.s.now a.state a.at b.load4.ensures c.load4-2.ensures c.look_up4.ensures c.look_up4-2.ensures
