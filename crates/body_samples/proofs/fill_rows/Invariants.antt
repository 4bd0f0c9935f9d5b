-- The loop of `fill_rows`: `Filling` says how far the list is filled.
use Rattle.std.proofs.Common.{length}
use Rattle.body_samples.proofs.Filling.{Filling}
use Rattle.body_samples.proofs.fill_rows.Given as goal

abbrev pub invariant-loop-sample : goal.invariant-loop-sample
invariant-loop-sample l = Filling l.body (length l.initial.list) l.initial.list l.place l.sample-index l.list
