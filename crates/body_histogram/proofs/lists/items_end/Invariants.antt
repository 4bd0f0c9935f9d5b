-- `items_end` meets its contract: the loop's invariant is that the
-- elements that are left end where all of them do.
use Rattle.std.proofs.Common.{◌≡◌, ◌-◌}
use Rattle.body_format.specs.Histograms.{items_at}
use Rattle.body_fields.specs.Ends.{end_of}
use Rattle.body_histogram.proofs.lists.items_end.Given as goal

abbrev pub invariant-loop : goal.invariant-loop
invariant-loop l =
    end_of (items_at l.element (l.count - l.counter) l.body l.at) ≡ end_of (items_at l.element l.count l.body l.first)
