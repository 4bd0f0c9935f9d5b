-- `add_up` meets its contract: what is left is 0 exactly if the sum is the size.
use Rattle.std.proofs.Common.{◌≡◌, sym, ne_eqb, arith}
use Rattle.body_format.specs.Building.{total}
use Rattle.body_format.proofs.Laws.Strings.{total-step}
use Rattle.body_builder.proofs.Sizing.{total-end, sum_is}
use Rattle.body_builder.proofs.strings.add_up.Goals as goal

pub returns-in_default : goal.returns-in_default
returns-in_default c =
    let step = total-step c.args.lengths.now c.loop-length.length-index (omega arith) in
    sym (ne_eqb _ _ (λ (e : total c.args.lengths.now ≡ c.args.size). c.in_default.ensures (omega (arith, step))))

pub loop-length-preserved : goal.loop-length-preserved
loop-length-preserved c =
    omega (arith, total-step c.args.lengths.now c.loop-length.length-index (omega arith), c.in-Some.ensures.0, c.in-Some.ensures.1)

pub returns : goal.returns
returns c =
    sum_is c.loop-length.left (total c.args.lengths.now) c.args.size
    (omega (arith, total-end c.args.lengths.now c.loop-length.length-index (omega arith)))
