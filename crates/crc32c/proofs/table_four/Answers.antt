-- `table_four` meets its contract: four bytes more by a caller's table, where four are left.
use Rattle.std.proofs.Common.{arith, sym, ◌∙◌, drop}
use Rattle.crc32c_format.specs.TableSum.{table_step4}
use Rattle.crc32c_format.specs.Method.Slicing.{steps_once, steps-none}
use Rattle.crc32c.proofs.table_four.Goals as goal

pub returns-then-s-at-ge4 : goal.returns-then-s-at-ge4
returns-then-s-at-ge4 c =
    let a = c.args in
    c.table_step4.ensures ∙ sym (steps_once 4 (table_step4 a.t.now) _ a.state (drop a.at a.s.now) (omega arith))

pub returns-else-s-at-ge4 : goal.returns-else-s-at-ge4
returns-else-s-at-ge4 c =
    let a = c.args in
    sym (steps-none 4 (table_step4 a.t.now) _ a.state (drop a.at a.s.now) (omega arith))
