-- `plan_fill` meets its contract, by what was counted and the room.
use Rattle.std.proofs.Common.{sym, ◌∙◌}
use Rattle.wal_types.proofs.Passing.{passed_on}
use Rattle.body_samples.specs.Filling.{samples_in}
use Rattle.body_samples.proofs.Counting.{fits, full, bad}
use Rattle.body_samples.proofs.plan_fill.Goals as goal

pub returns-then-room-count : goal.returns-then-room-count
returns-then-room-count c = full (samples_in c.args.body.now) _ _ (sym c.count_samples.ensures ∙ c.in_ok-count.was) c.if-room-count.true

pub returns : goal.returns
returns c = fits (samples_in c.args.body.now) _ _ (sym c.count_samples.ensures ∙ c.in_ok-count.was) c.if-room-count.false

pub returns-in_err-count : goal.returns-in_err-count
returns-in_err-count c =
    passed_on c.from_residual.result _ c.from_residual.ensures.1
    ∙ bad (samples_in c.args.body.now) _ c.args.room (sym c.count_samples.ensures ∙ c.in_err-count.was)
