-- The first i bytes are stored.
use Rattle.std.proofs.Common.{◌≡◌}
use Rattle.byte_copy.proofs.Stores.{put}
use Rattle.byte_copy.proofs.copy_bytes.Given as goal

abbrev pub invariant-loop-i : goal.invariant-loop-i
invariant-loop-i l = l.to ≡ put l.source l.from l.initial.to l.at l.i
