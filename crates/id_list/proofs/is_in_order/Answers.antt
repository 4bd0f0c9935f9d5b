-- `is_in_order` meets its contract: by the neighbours at a place, or by a search.
use Rattle.std.proofs.Common.{◌∙◌, arith}
use Rattle.id_list.proofs.Ordering.{before_all, by_neighbours, by_search}
use Rattle.id_list.proofs.is_in_order.Goals as goal

pub returns-in_default : goal.returns-in_default
returns-in_default c = before_all c.args.ids.now c.args.id (λ h. absurd (omega (arith, c.in_default.ensures.item.3)))

pub returns-then-id-first : goal.returns-then-id-first
returns-then-id-first c =
    before_all c.args.ids.now c.args.id (λ h. omega (arith, c.in-Some.ensures.item.3.1 0))

pub returns-then-is_below : goal.returns-then-is_below
returns-then-is_below c =
    by_neighbours c.args.ids.now c.args.id c.args.hint.now (c.is_below.ensures c.if-is_below.true)

pub returns : goal.returns
returns c =
    let a = c.args in
    λ h. c.is_ok.ensures.value ∙ by_search a.ids.now a.id c.binary_search-found.result c.binary_search-found.ensures.position h
