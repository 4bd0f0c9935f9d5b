-- The first i bytes are folded.
use Rattle.crc32c_format.specs.Method.Fold.{onto290, Folded}
use Rattle.crc32c.proofs.fold.Given as goal

abbrev pub invariant-loop-i : goal.invariant-loop-i
invariant-loop-i l = Folded onto290 l.m l.initial.y l.y l.i
