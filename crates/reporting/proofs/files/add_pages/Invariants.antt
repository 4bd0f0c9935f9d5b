-- `add_pages`: the loop ends by its count of bytes, and the page keeps its length.
use Rattle.std.proofs.Common.{◌≡◌, ◌-◌, ◌≤◌, length}
use Rattle.reporting.proofs.files.add_pages.Given as goal

abbrev pub invariant-loop-total : goal.invariant-loop-total
invariant-loop-total g l = (l.total ≤ 134250496) × (length l.page ≡ length l.initial.page)

abbrev pub decreases-loop-total : goal.decreases-loop-total
decreases-loop-total g l = 134250496 - l.total
