-- `size` meets its contract: both sizes added up.
use Rattle.std.proofs.Common.{arith}
use Rattle.body_builder_histogram.specs.Items.{sides_of}
use Rattle.body_builder_histogram.proofs.Parts.{both_measured}
use Rattle.body_builder_histogram.proofs.items.Sides.size.Goals as goal

pub returns : goal.returns
unfolding sides_of
returns c =
    let p = c.in_ok-size.ensures in
    let n = c.in_ok-size-2.ensures in
    (both_measured _ _ _ _ _ _ p.0 n.0, omega (arith, p.1, n.1))
