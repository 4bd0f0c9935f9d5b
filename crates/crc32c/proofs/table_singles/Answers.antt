use Rattle.std.proofs.Common.{◌+◌, ◌-◌, sym, ◌∙◌, arith, length}
use Rattle.crc32c_format.specs.TableSum.{table_step1}
use Rattle.crc32c_format.specs.Method.Slicing.{steps_more, steps-none, table_step1-at}
use Rattle.crc32c.proofs.table_singles.Goals as goal

pub loop-i-preserved : goal.loop-i-preserved
loop-i-preserved c =
    let a = c.args in
    let s = a.s.now in
    let i = c.loop-i.i in
    steps_more 1 (table_step1 a.t.now) (length s - (i + 1)) (length s - i) c.loop-i.c i s (omega arith)
    (c.table_byte-c.ensures ∙ table_step1-at a.t.now s c.loop-i.c i)
    ∙ c.loop-i.invariant

pub returns : goal.returns
returns c =
    let a = c.args in
    sym (steps-none 1 (table_step1 a.t.now) (length a.s.now - c.loop-i.i) c.loop-i.c _ (omega arith)) ∙ c.loop-i.invariant
