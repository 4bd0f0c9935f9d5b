-- `place_or_end` meets its contract: the end, or a place before it.
use Rattle.std.proofs.Common.{eq-eqb, ne_eqb}
use Rattle.body_format.specs.Reading.{place_or_end}
use Rattle.body_rows.proofs.place_or_end.Goals as goal

pub returns-then-at-body : goal.returns-then-at-body
unfolding place_or_end
returns-then-at-body c = rw (eq-eqb _ _ c.if-at-body.true)

pub returns-else-at-body : goal.returns-else-at-body
unfolding place_or_end
returns-else-at-body c = rw (ne_eqb _ _ c.if-at-body.false)
