-- `fill` meets its contract: the plan, and then the rows.
use Rattle.std.proofs.Common.{sym, ap, ◌++◌, drop, ◌∙◌}
use Rattle.wal_types.proofs.Passing.{passed_on}
use Rattle.body_samples.specs.Filling.{samples_in}
use Rattle.body_samples.proofs.Counting.{front_filled, unfilled}
use Rattle.body_samples.proofs.fill.Goals as goal

pub returns : goal.returns
returns c =
    let a = c.args in
    let e = sym c.in_ok-count.was ∙ c.plan_fill.ensures in
    (e, ap (λ r. r ++ drop c.in_ok-count.count a.list.now) c.fill_rows.ensures ∙ front_filled a.body.now a.list.now _ e)

pub returns-in_err-count : goal.returns-in_err-count
returns-in_err-count c =
    let e = sym c.in_err-count.was ∙ c.plan_fill.ensures in
    (passed_on c.from_residual.result _ c.from_residual.ensures.1 ∙ e, unfilled (samples_in c.args.body.now) _ e)
