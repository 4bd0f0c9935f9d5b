-- `check` meets its contract: its type, where its entries begin, and their number.
use Rattle.std.specs.Prelude.{◌≡◌, List}
use Rattle.std.proofs.Common.{sym, ap, ◌∙◌, ℕ}
use Rattle.wal_types.proofs.Passing.{passed_on}
use Rattle.body_format.specs.Results.CheckAnswer.{Refused as CheckRefused}
use Rattle.body_format.specs.Entries.{known, has_rows}
use Rattle.body_format.specs.Reading.{check_known, check_body}
use Rattle.body_reader.specs.declared.tags.BodyLayout.{BodyLayout}
use Rattle.body_reader.specs.Results.TypeRead.{TypeRead}
use Rattle.body_reader.specs.Results.TypeRead as type
use Rattle.body_reader.specs.Layouts.{type_in, type_read}
use Rattle.body_reader.proofs.Types.{by_type, check_type, known_some}
use Rattle.body_reader.proofs.Reading.{place_at, place-fault, check-all, check-fault, first_inside}
use Rattle.body_reader.proofs.check.Goals as goal

known-check : (s : List ℕ) {r : TypeRead} {k : BodyLayout} → r ≡ type_read s → r ≡ type.Known k
    → check_body s ≡ check_known (known (type_in k)) s
known-check s e g = check_type s ∙ ap (by_type CheckRefused (λ k. check_known (known k) s)) (sym e ∙ g)

pub count_entries-requires : goal.count_entries-requires
count_entries-requires c =
    let body = c.args.body.now in
    first_inside (has_rows (type_in c.in_ok-layout.layout)) body
    (known_some body _ c.body_type.ensures c.in_ok-layout.was)
    (place_at _ _ c.entries_begin.ensures c.in_ok-first.was)

pub returns : goal.returns
returns c =
    let body = c.args.body.now in
    c.count_entries.ensures
    ∙ check-all (type_in c.in_ok-layout.layout) body
    (known-check body c.body_type.ensures c.in_ok-layout.was)
    (place_at _ _ c.entries_begin.ensures c.in_ok-first.was)

pub returns-in_err-first : goal.returns-in_err-first
returns-in_err-first c =
    let body = c.args.body.now in
    passed_on c.from_residual-in_err-first.result _ c.from_residual-in_err-first.ensures.1
    ∙ check-fault (type_in c.in_ok-layout.layout) body
    (known-check body c.body_type.ensures c.in_ok-layout.was)
    (place-fault _ _ c.entries_begin.ensures c.in_err-first.was)

pub returns-in_err-layout : goal.returns-in_err-layout
returns-in_err-layout c =
    passed_on c.from_residual.result _ c.from_residual.ensures.1
    ∙ sym (check_type _ ∙ ap (by_type CheckRefused (λ k. check_known (known k) c.args.body.now)) (sym c.body_type.ensures ∙ c.in_err-layout.was))
