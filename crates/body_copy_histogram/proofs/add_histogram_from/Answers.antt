-- `add_histogram_from` meets its contract: the histogram is there, or not.
use Rattle.std.proofs.Common.{sym, ap, ◌∙◌}
use Rattle.std.specs.Prelude.{Ok, Err}
use Rattle.wal_types.proofs.Passing.{passed_on}
use Rattle.body_builder.specs.Answers.{added_of}
use Rattle.body_copy_histogram.proofs.Found.{taken, not_read, not_there, no_view}
use Rattle.body_copy_histogram.proofs.add_histogram_from.Goals as goal

pub returns : goal.returns
returns c =
    let a = c.args in
    let t = taken a.buffer.now a.body.tag a.body.used.0 a.kind a.from.now _ _ _ c.histogram_entry.ensures (c.in_ok-histogram_entry.was ∙ ap Ok c.in_ok-view.ensures.ok_part) in
    let w = c.add_view.ensures t.entry t.tag t.bytes in
    record { answer = w.0 ∙ ap (added_of a.body.tag) (sym t.outcome); bytes = w.1 ∙ sym t.buffer }

pub returns-in_err-histogram_entry : goal.returns-in_err-histogram_entry
returns-in_err-histogram_entry c =
    let a = c.args in
    let both = not_read a.buffer.now a.body.tag a.body.used.0 a.kind a.from.now _ _ _ c.histogram_entry.ensures c.in_err-histogram_entry.was in
    record { answer = passed_on _ _ c.from_residual.ensures.1 ∙ both.0; bytes = both.1 }

pub returns-in_err-view : goal.returns-in_err-view
returns-in_err-view c =
    let a = c.args in
    let n = no_view _ _ _ (sym c.ok_or.ensures.value ∙ c.in_err-view.was) in
    let both = not_there a.buffer.now a.body.tag a.body.used.0 a.kind a.from.now _ _ c.histogram_entry.ensures (c.in_ok-histogram_entry.was ∙ ap Ok n.0) in
    record { answer = passed_on _ _ c.from_residual-in_err-view.ensures.1 ∙ ap (λ y. Err y) n.1 ∙ both.0; bytes = both.1 }
