-- `Laying`: once the elements that are left are written, the slice is as it is to be.
use Rattle.body_builder_histogram.specs.Items.{element_of, items_of}
use Rattle.body_builder_histogram.proofs.Laying.{Laying}
use Rattle.body_builder_histogram.proofs.items.Items.put.Given as goal

abbrev pub invariant-loop-i : goal.invariant-loop-i
invariant-loop-i l = Laying (element_of l.self) (items_of l.self) l.initial.buffer l.initial.place l.buffer l.place l.i
