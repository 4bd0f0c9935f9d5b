-- `is_listed` meets its contract: by the hint, or by the kind of search.
use Rattle.std.proofs.Common.{arith}
use Rattle.id_list.proofs.Ordering.{listed_at}
use Rattle.id_list.proofs.is_listed.Goals as goal

pub returns-then-ids-place : goal.returns-then-ids-place
returns-then-ids-place c =
    let a = c.args in
    λ h. listed_at a.id.0 _ a.ids.now (omega arith) c.if-ids-place.true
