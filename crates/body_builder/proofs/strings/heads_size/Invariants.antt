-- The size so far and that of the lengths that are left make the whole.
use Rattle.std.proofs.Common.{◌≡◌, ◌+◌, ◌*◌, ◌≤◌, drop}
use Rattle.body_builder.specs.Sizes.{heads}
use Rattle.body_builder.proofs.strings.heads_size.Given as goal

abbrev pub invariant-loop-length : goal.invariant-loop-length
invariant-loop-length l =
    (l.size + heads (drop l.length-index l.lengths) ≡ heads l.lengths) × (l.size ≤ 10 * l.length-index)
