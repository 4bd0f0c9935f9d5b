use Rattle.std.proofs.Common.{◌-◌, arith}
use Rattle.crc32c.proofs.ByRows.{few_none, few_lt, few_more}
use Rattle.crc32c.proofs.load_few.Goals as goal

pub loop-i-init : goal.loop-i-init
loop-i-init c = few_none c.args.s.now

pub overflow_mul-x : goal.overflow_mul-x
overflow_mul-x c =
    let small = few_lt c.args.s.now c.loop-i.i c.loop-i.x (omega arith) (λ k. omega (arith, c.type_inv.s k)) c.loop-i.invariant in
    omega (arith, small)

pub overflow_add-x : goal.overflow_add-x
overflow_add-x c =
    let small = few_lt c.args.s.now c.loop-i.i c.loop-i.x (omega arith) (λ k. omega (arith, c.type_inv.s k)) c.loop-i.invariant in
    omega (arith, small, c.from.ensures, c.type_inv.s (c.loop-i.i - 1))

pub loop-i-preserved : goal.loop-i-preserved
loop-i-preserved c =
    let i = c.loop-i.i in
    few_more c.args.s.now i (i - 1) c.loop-i.x c.from.result (omega arith) (omega arith)
    c.from.ensures (omega (arith, c.from.ensures, c.type_inv.s (i - 1))) c.loop-i.invariant
