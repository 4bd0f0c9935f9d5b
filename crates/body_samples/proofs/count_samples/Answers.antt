-- `count_samples` meets its contract, by the body's type.
use Rattle.std.proofs.Common.{ap, ◌∙◌}
use Rattle.wal_types.proofs.Passing.{passed_on}
use Rattle.body_reader.specs.declared.tags.BodyLayout.TheVariants.{Rows}
use Rattle.body_samples.proofs.Counting.{by_layout, untyped}
use Rattle.body_samples.proofs.count_samples.Goals as goal

pub returns : goal.returns
returns c =
    c.check_samples.ensures
    ∙ by_layout _ c.body_type.ensures c.in_ok-layout.was (c.in-Rows-false.is ∙ ap Rows c.in-Rows-false.labelled-test)

pub returns-in_err-layout : goal.returns-in_err-layout
returns-in_err-layout c =
    passed_on c.from_residual.result _ c.from_residual.ensures.1
    ∙ untyped _ c.body_type.ensures c.in_err-layout.was
