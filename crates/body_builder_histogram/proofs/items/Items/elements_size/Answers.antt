-- `elements_size` meets its contract.
use Rattle.std.proofs.Common.{◌<◌, length, arith}
use Rattle.body_builder_histogram.specs.Items.{items_of}
use Rattle.body_builder_histogram.proofs.Laying.{sized_more, sized-all}
use Rattle.body_builder_histogram.proofs.Stepping.{items-step}
use Rattle.body_builder_histogram.proofs.items.Items.elements_size.Goals as goal

pub loop-i-preserved : goal.loop-i-preserved
loop-i-preserved c =
    let l = c.loop-i in
    let h : l.i < length (items_of c.args.self) = omega (arith, c.requires.1) in
    sized_more _ _ _ _ _ l.invariant _ (items-step _ _ c.requires.0 h) h _ c.size_at-total.ensures.0 c.size_at-total.ensures.1

pub returns : goal.returns
returns c =
    let all = sized-all _ _ _ _ _ c.loop-i.invariant (omega (arith, c.requires.1)) in
    (all.0, omega (arith, all.1, c.requires.1))
