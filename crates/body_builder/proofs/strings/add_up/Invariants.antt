-- What is left of the size is compared with the sum of the lengths that are left.
use Rattle.std.proofs.Common.{◌≡◌, ◌+◌, drop}
use Rattle.body_format.specs.Building.{total}
use Rattle.body_builder.proofs.strings.add_up.Given as goal

abbrev pub invariant-loop-length : goal.invariant-loop-length
invariant-loop-length l = l.left + total l.lengths ≡ l.size + total (drop l.length-index l.lengths)
