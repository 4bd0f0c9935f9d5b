-- `long` meets its contract: the window slides over the message. The invariant: it is the window
-- after the first i bytes.
use Rattle.std.proofs.Common.{◌≡◌, ◌-◌, ◌≤◌, length}
use Rattle.crc32c_format.specs.Method.Fold.{onto290}
use Rattle.crc32c_format.specs.Method.Window.{Window}
use Rattle.crc32c.proofs.long.Given as goal

abbrev pub invariant-loop-i : goal.invariant-loop-i
invariant-loop-i l = (l.i ≤ l.last) × (length l.y ≡ 2338) × Window onto290 l.m l.state l.y l.i

abbrev pub decreases-loop-i : goal.decreases-loop-i
decreases-loop-i l = l.last - l.i
