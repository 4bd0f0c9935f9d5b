-- `count_entries` meets its contract. The loop's invariant: the entries counted and those that are
-- left make the whole list.
use Rattle.std.proofs.Common.{◌-◌, length}
use Rattle.body_reader.proofs.Reading.{Counting}
use Rattle.body_reader.proofs.places.count_entries.Given as goal

abbrev pub invariant-loop-at : goal.invariant-loop-at
invariant-loop-at g l = Counting (g.W.Walked.kind l.layout) l.body l.first l.at l.count

abbrev pub decreases-loop-at : goal.decreases-loop-at
decreases-loop-at g l = length l.body - l.at
