-- `copy_chunks` meets its contract: the part of the source is stored chunk by chunk.
use Rattle.std.proofs.Common.{◌≡◌, ◌-◌, ◌%◌, ◌≤◌}
use Rattle.byte_copy.proofs.Stores.{put}
use Rattle.byte_copy.proofs.copy_chunks.Given as goal

abbrev pub invariant-loop-i : goal.invariant-loop-i
invariant-loop-i l = (l.i ≤ l.count) × (l.i % 16 ≡ 0) × (l.to ≡ put l.source l.from l.initial.to l.at l.i)

abbrev pub decreases-loop-i : goal.decreases-loop-i
decreases-loop-i l = l.count - l.i
