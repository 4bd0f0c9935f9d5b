-- `table_eights` meets its contract. The invariant: the steps to come, from the register so far,
-- give what all give.
use Rattle.std.proofs.Common.{arith, ℕ, ◌+◌, ◌-◌, ◌/◌, sym, ap, ◌∙◌, length, drop}
use Rattle.crc32c_format.specs.TableSum.{steps, table_step8}
use Rattle.crc32c_format.specs.Method.Slicing.{steps_more, steps-none}
use Rattle.crc32c.proofs.table_eights.Goals as goal

pub loop-i-init : goal.loop-i-init
loop-i-init c =
    let a = c.args in
    (omega arith, ap (λ (k : ℕ). steps 8 (table_step8 a.t.now) k a.state a.s.now) (omega arith))

pub loop-i-preserved : goal.loop-i-preserved
loop-i-preserved c =
    let b = c in
    let a = b.args in
    let left = length a.s.now - b.loop-i.i in
    (omega arith, steps_more 8 (table_step8 a.t.now) ((length a.s.now - (b.loop-i.i + 8)) / 8) (left / 8) b.loop-i.c b.loop-i.i a.s.now (omega arith) c.table_step8-c.ensures ∙ b.loop-i.invariant.1)

pub returns : goal.returns
returns c =
    let b = c in
    let a = b.args in
    sym (steps-none 8 (table_step8 a.t.now) ((length a.s.now - b.loop-i.i) / 8) b.loop-i.c (drop b.loop-i.i a.s.now) (omega arith)) ∙ b.loop-i.invariant.1
