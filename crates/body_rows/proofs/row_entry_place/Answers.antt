-- `row_entry_place` meets its contract, place by place.
use Rattle.std.proofs.Common.{Bool, arith, sym, ap, ◌∙◌}
use Rattle.body_format.specs.Entries.{first_at}
use Rattle.body_format.specs.Reading.{first_place}
use Rattle.body_format.proofs.Laws.Places.{bad_zero, bad-past, bad_among, known-first, known-later}
use Rattle.body_rows.proofs.row_entry_place.Goals as goal

pub returns-then-at-eq0 : goal.returns-then-at-eq0
returns-then-at-eq0 c k rows = sym (bad_zero k _ _ c.if-at-eq0.true)

pub returns-then-body-at : goal.returns-then-body-at
returns-then-body-at c k rows = sym (bad-past k _ _ c.if-body-at.true)

pub returns-then-at-eq1 : goal.returns-then-at-eq1
returns-then-at-eq1 c k rows =
    let s = c.args.body.now in
    c.first_place.ensures
    ∙ sym (known-first k s _ c.if-at-eq1.true (omega (arith, c.if-body-at.false, c.if-at-eq1.true))
    ∙ ap (λ (t : Bool). first_place s (first_at t s)) rows)

pub returns-then-at-lt-ROWS : goal.returns-then-at-lt-ROWS
returns-then-at-lt-ROWS c k rows =
    let tests = c in
    sym (bad_among k _ _ rows (omega (arith, tests.if-at-eq0.false, c.if-at-eq1.false)) (omega (arith, c.if-at-lt-ROWS.true)) tests.if-body-at.false)

pub returns : goal.returns
returns c k rows =
    let tests = c in
    c.place_or_end.ensures ∙ sym (known-later k _ _ (omega (arith, c.if-at-lt-ROWS.false)) tests.if-body-at.false (λ e. c.if-at-lt-ROWS.false))
