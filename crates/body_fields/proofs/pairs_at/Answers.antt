-- `pairs_at` meets its contract. The loop's invariant: the strings so far and the pairs that are
-- left make the whole list.
use Rattle.std.proofs.Common.{◌≡◌, ◌+◌, ◌-◌, ◌∙◌, sym, arith}
use Rattle.wal_types.proofs.Passing.{passed_on}
use Rattle.body_fields.specs.Results.Place.{At, Fault}
use Rattle.body_fields.proofs.Strings.{PairTold, pair_turn, pairs_done}
use Rattle.body_fields.proofs.pairs_at.Goals as goal
use Rattle.body_fields.proofs.pairs_at.Goals.{In_ok-at}

-- two strings more
turned : (c : In_ok-at) →
    let l = c.loop in
    PairTold c.args.body.now c.args.first c.args.pairs l.at l.count (c.args.pairs - l.counter) (At c.in_ok-at.at)
turned c =
    let l = c.loop in
    pair_turn _ _ _ _ _ _ l.invariant (omega arith) _ (sym c.in_ok-at.was ∙ c.pair_at.ensures)

pub returns-in_err-at : goal.returns-in_err-at
returns-in_err-at c =
    passed_on c.from_residual.result _ c.from_residual.ensures.1
    ∙ pair_turn _ _ _ _ _ _ c.loop.invariant (omega arith) (Fault c.in_err-at.field-0.0) (sym c.in_err-at.was ∙ c.pair_at.ensures)

pub loop-preserved : goal.loop-preserved
loop-preserved c =
    let one : c.args.pairs - (c.loop.counter + 1) ≡ c.args.pairs - c.loop.counter - 1 = omega arith in
    rw one (turned (goal.at.loop-preserved c).In_ok-at).0

pub returns : goal.returns
returns c =
    let none : c.args.pairs - c.loop.counter ≡ 0 = omega arith in
    pairs_done _ _ _ _ _ (rw none at c.loop.invariant)
