-- `Laying`: once the strings that are left are written, the slice is as it is to be.
use Rattle.body_builder.proofs.Laying.{Laying}
use Rattle.body_builder.proofs.strings.put_strings.Given as goal

abbrev pub invariant-loop-length : goal.invariant-loop-length
invariant-loop-length l = Laying l.strings l.lengths l.initial.buffer l.at l.buffer l.place l.from l.length-index
