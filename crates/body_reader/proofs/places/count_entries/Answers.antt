-- `count_entries` meets its contract. The loop's invariant: the entries counted and those that are
-- left make the whole list.
use Rattle.std.proofs.Common.{sym, ◌∙◌, arith}
use Rattle.wal_types.proofs.Passing.{passed_on}
use Rattle.body_fields.specs.Results.Place.{At, Fault}
use Rattle.body_reader.proofs.Reading.{counting, end-turn, count-done, EndTold}
use Rattle.body_reader.proofs.places.count_entries.Given.{Over}
use Rattle.body_reader.proofs.places.count_entries.Goals as goal
use Rattle.body_reader.proofs.places.count_entries.Goals.{In_ok-at}

-- one more
turned : (g : Over) (c : In_ok-at g)
    → EndTold (g.W.Walked.kind c.args.layout) c.args.body.now c.args.first c.loop-at.at c.loop-at.count (At c.in_ok-at.at)
turned g c = end-turn _ _ _ _ _ c.loop-at.invariant c.loop-at-test.true _ (sym c.in_ok-at.was ∙ c.entry_end.ensures)

pub loop-at-init : goal.loop-at-init
loop-at-init g c = counting _ _ _ c.requires.0 c.requires.1

pub overflow_add-count : goal.overflow_add-count
overflow_add-count g c =
    let t = turned g (goal.at.overflow_add-count g c).In_ok-at in
    omega (arith, t.1, t.2, c.loop-at.invariant.few)

pub loop-at-smaller : goal.loop-at-smaller
loop-at-smaller g c =
    let t = turned g (goal.at.loop-at-smaller g c).In_ok-at in
    omega (arith, t.1, t.2)

pub loop-at-preserved : goal.loop-at-preserved
loop-at-preserved g c = (turned g (goal.at.loop-at-preserved g c).In_ok-at).0

pub returns-in_err-at : goal.returns-in_err-at
returns-in_err-at g c =
    passed_on c.from_residual.result _ c.from_residual.ensures.1
    ∙ end-turn (g.W.Walked.kind c.args.layout) _ _ _ _ c.loop-at.invariant c.loop-at-test.true (Fault c.in_err-at.field-0.0)
    (sym c.in_err-at.was ∙ c.entry_end.ensures)

pub returns : goal.returns
returns g c = count-done _ _ _ _ _ c.loop-at.invariant (omega arith)
