-- `row_at` meets its contract: the row of the entry that is read.
use Rattle.std.proofs.Common.{sym, ap, ◌∙◌}
use Rattle.std.specs.Prelude.{Ok}
use Rattle.body_format.specs.Results.EntryAnswer.{EntryAnswer}
use Rattle.body_samples.specs.declared.Sample.{Sample}
use Rattle.body_samples.specs.Rows.{row_of}
use Rattle.body_samples.proofs.row_at.Goals as goal

pub returns-in-Ok-Some : goal.returns-in-Ok-Some
returns-in-Ok-Some c =
    ap (λ (s : Sample). record { sample = s; next = c.in-Ok-Some.view.next.0 }) c.from.ensures
    ∙ ap (λ (a : EntryAnswer). row_of a c.args.place) (ap Ok (sym c.in-Ok-Some.field-0-is) ∙ sym c.in-Ok-Some.is ∙ c.entry_at.ensures)
