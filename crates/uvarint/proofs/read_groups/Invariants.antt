-- The loop's invariant, `Head`: what the bytes so far and those left encode together.
use Rattle.uvarint.proofs.Reading.{Head}
use Rattle.uvarint.proofs.read_groups.Given as goal

abbrev pub invariant-loop-i : goal.invariant-loop-i
invariant-loop-i l = Head l.buf l.at l.value l.scale l.i
