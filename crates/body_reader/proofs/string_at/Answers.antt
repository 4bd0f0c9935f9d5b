-- `string_at` meets its contract: its type, its place, and then the string.
use Rattle.std.specs.Prelude.{◌≡◌, List, ℕ}
use Rattle.std.proofs.Common.{sym, ap, ◌∙◌}
use Rattle.wal_types.proofs.Passing.{passed_on}
use Rattle.body_format.specs.Results.StringAnswer.{Refused as StringRefused}
use Rattle.body_format.specs.Fields.{string_at}
use Rattle.body_format.specs.Entries.{known}
use Rattle.body_format.specs.Reading.{string_known, read_string}
use Rattle.body_reader.specs.declared.tags.BodyLayout.{BodyLayout}
use Rattle.body_reader.specs.Results.TypeRead.{TypeRead}
use Rattle.body_reader.specs.Results.TypeRead as type
use Rattle.body_reader.specs.Layouts.{type_in, type_read}
use Rattle.body_fields.specs.Laws.{string-told, string_faulty}
use Rattle.body_reader.proofs.Types.{by_type, string_type}
use Rattle.body_reader.proofs.Reading.{string-found, string-refused}
use Rattle.body_reader.proofs.string_at.Goals as goal

known-string : (s : List ℕ) (p : ℕ) {r : TypeRead} {k : BodyLayout} → r ≡ type_read s → r ≡ type.Known k
    → read_string s p ≡ string_known (known (type_in k)) s p
known-string s p e g =
    string_type s p ∙ ap (by_type StringRefused (λ k. string_known (known k) s p)) (sym e ∙ g)

pub returns-then-is_outside : goal.returns-then-is_outside
returns-then-is_outside c =
    rw (known-string _ _ c.body_type.ensures c.in_ok-body_type.was, sym c.is_outside.ensures ∙ c.if-is_outside.true)

pub returns : goal.returns
returns c =
    rw (known-string _ _ c.body_type.ensures c.in_ok-body_type.was, sym c.is_outside.ensures ∙ c.if-is_outside.false)
    (string-found (string_at c.args.body.now c.args.place.0)
    (string-told _ _ c.string_field_at.ensures c.in_ok-start.was))

pub returns-in_err-start : goal.returns-in_err-start
returns-in_err-start c =
    passed_on c.from_residual-in_err-start.result _ c.from_residual-in_err-start.ensures.1
    ∙ rw (known-string _ _ c.body_type.ensures c.in_ok-body_type.was, sym c.is_outside.ensures ∙ c.if-is_outside.false)
    (string-refused (string_at c.args.body.now c.args.place.0)
    (string_faulty _ _ c.string_field_at.ensures c.in_err-start.was))

pub returns-in_err-body_type : goal.returns-in_err-body_type
returns-in_err-body_type c =
    passed_on c.from_residual.result _ c.from_residual.ensures.1
    ∙ sym (string_type _ _ ∙ ap (by_type StringRefused (λ k. string_known (known k) c.args.body.now c.args.place.0)) (sym c.body_type.ensures ∙ c.in_err-body_type.was))
