-- `row_entry` meets its contract: no row yet, a bad place, the end, or the row.
use Rattle.std.proofs.Common.{ℕ, ◌≤◌, ◌<◌, ◌≡◌, length, arith, sym, ap, ◌∙◌, subst}
use Rattle.body_format.specs.Reading.{place_or_end, entry_place}
use Rattle.body_format.proofs.Laws.Places.{place_end, place-before, entry-there}
use Rattle.body_rows.specs.Rows.{rows_type}
use Rattle.body_rows.specs.Laws.{rows-rows}
use Rattle.body_rows.proofs.Placing.{row_low, row-past, row_here}
use Rattle.body_rows.proofs.row_entry.Goals as goal
use Rattle.body_rows.proofs.row_entry.Goals.{Else-body-from}

pub returns-then-from-lt-ROWS : goal.returns-then-from-lt-ROWS
returns-then-from-lt-ROWS c =
    let a = c.args in
    entry-there _ _ _ (row_low _ _ _ (rows-rows a.labelled) (omega arith)
    (subst (λ (q : ℕ). q < 17) c.row_place-from.ensures c.if-from-lt-ROWS.true))

pub returns-then-body-from : goal.returns-then-body-from
returns-then-body-from c =
    let a = c.args in
    entry-there _ _ _ (row-past _ _ _ (rows-rows a.labelled) (omega arith)
    (subst (λ (q : ℕ). length a.body.now < q) c.row_place-from.ensures c.if-body-from.true))

-- a row, or the end, at the row's own place
here : (c : Else-body-from) →
    let a = c.args in
    entry_place (rows_type a.labelled) a.body.now a.at ≡ place_or_end a.body.now c.row_place-from.result
here c =
    let a = c.args in
    let e = c.row_place-from.ensures in
    row_here _ a.body.now a.at (rows-rows a.labelled) (omega arith)
    (subst (λ (q : ℕ). 17 ≤ q) e c.if-from-lt-ROWS.false)
    (subst (λ (q : ℕ). q ≤ length a.body.now) e c.if-body-from.false)
    ∙ ap (place_or_end a.body.now) (sym e)

pub returns-then-body-from-2 : goal.returns-then-body-from-2
returns-then-body-from-2 c = entry-there _ _ _ (here (goal.at.returns-then-body-from-2 c).Else-body-from ∙ place_end _ _ (sym c.if-body-from-2.true))

pub returns : goal.returns
returns c =
    let tests = c in
    c.row_entry_at.ensures
    ∙ entry-there _ _ _ (here (goal.at.returns c).Else-body-from ∙ place-before _ _ (omega (arith, tests.if-body-from.false, tests.if-body-from-2.false)))
