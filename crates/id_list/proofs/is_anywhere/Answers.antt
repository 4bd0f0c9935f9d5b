-- `is_anywhere` meets its contract: by the first place that has the id.
use Rattle.std.specs.Prelude.{◌≡◌, ◌≢◌, is_some}
use Rattle.std.proofs.Common.{rules, tests}
use Rattle.std.proofs.lemmas.Iterator.{IsFirst-from_position, YieldsList-from_slice}
use Rattle.checkpoint_format.specs.Keeping.{is_listed}
use Rattle.id_list.proofs.Ordering.{by_place}
use Rattle.id_list.proofs.is_anywhere.Goals as goal
use Rattle.id_list.proofs.is_anywhere.Goals.{After-position}

found : (c : After-position) → is_some c.position.result ≡ is_listed c.args.id c.args.ids.now
found c =
    let ids = c.args.ids.now in
    let id = c.args.id in
    let r = c.position.result in
    by_place ids id r
    (IsFirst-from_position _ _ r (λ x. x ≡ id) (λ x. x ≢ id) c.position.ensures.ran
    (YieldsList-from_slice ids cc) (λ x q k. search (rules, tests)) (λ x q k. search (rules, tests)))

pub returns-in_default : goal.returns-in_default
returns-in_default c = rw c.in_default.is at (found (goal.at.returns-in_default c).After-position)

pub returns : goal.returns
returns c = rw c.in-Some.is at (found (goal.at.returns c).After-position)
