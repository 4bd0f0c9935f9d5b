-- `fill_value` meets its contract: a refusal has its place.
use Rattle.std.proofs.Common.{ap}
use Rattle.wal_types.specs.declared.Offset.{Offset}
use Rattle.body_samples.proofs.fill_value.Goals as goal

pub returns-in-Err : goal.returns-in-Err
returns-in-Err c = rw c.in-Err.is (ap (λ (o : Offset). o.0) c.place.ensures)
