-- `Sizing`: the size so far and that of the elements that are left make the whole.
use Rattle.body_builder_histogram.specs.Items.{element_of, items_of}
use Rattle.body_builder_histogram.proofs.Laying.{Sizing}
use Rattle.body_builder_histogram.proofs.items.Items.elements_size.Given as goal

abbrev pub invariant-loop-i : goal.invariant-loop-i
invariant-loop-i l = Sizing (element_of l.self) (items_of l.self) l.total l.i 20
