-- `items_end` meets its contract: the loop's invariant is that the
-- elements that are left end where all of them do.
use Rattle.std.specs.Prelude.{◌≡◌, ◌+◌, ◌-◌}
use Rattle.std.proofs.Common.{sym, ◌∙◌, arith}
use Rattle.wal_types.proofs.Passing.{passed_on}
use Rattle.body_fields.specs.Results.Place.{At, Fault}
use Rattle.body_histogram.proofs.Walking.{turn, turned-all}
use Rattle.body_histogram.proofs.lists.items_end.Goals as goal

pub loop-init : goal.loop-init
loop-init c = let all : c.args.count - 0 ≡ c.args.count = omega arith in rw all

pub returns-in_err-at : goal.returns-in_err-at
returns-in_err-at c =
    passed_on c.from_residual.result _ c.from_residual.ensures.1
    ∙ turn _ _ _ _ _ _ c.loop.invariant (omega arith) (Fault c.in_err-at.field-0.0) (sym c.in_err-at.was ∙ c.item_end.ensures)

pub loop-preserved : goal.loop-preserved
loop-preserved c =
    let one : c.args.count - (c.loop.counter + 1) ≡ c.args.count - c.loop.counter - 1 = omega arith in
    rw one (turn _ _ _ _ _ _ c.loop.invariant (omega arith) (At c.in_ok-at.at) (sym c.in_ok-at.was ∙ c.item_end.ensures))

pub returns : goal.returns
returns c =
    let none : c.args.count - c.loop.counter ≡ 0 = omega arith in
    turned-all _ _ _ ∙ (rw none at c.loop.invariant)
