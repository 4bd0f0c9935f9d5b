-- `string_field_at` meets its contract: the length, and then its bytes, which are all there or not.
use Rattle.std.proofs.Common.{sym, ap, ◌∙◌}
use Rattle.wal_types.proofs.Passing.{passed_on}
use Rattle.body_format.proofs.Laws.Fields.{string-short, string-fault}
use Rattle.body_fields.specs.Readings.{string_read}
use Rattle.body_fields.specs.Laws.{number-got, number-fault}
use Rattle.body_fields.proofs.Strings.{uvarint_inside, string-whole}
use Rattle.body_fields.proofs.string_field_at.Goals as goal

pub returns-in_err-value : goal.returns-in_err-value
returns-in_err-value c =
    passed_on c.from_residual.result _ c.from_residual.ensures.1
    ∙ sym (ap string_read (string-fault _ _ _ (number-fault _ _ c.uvarint_at.ensures c.in_err-value.was)))

pub overflow_sub-left : goal.overflow_sub-left
overflow_sub-left c = uvarint_inside _ _ _ _ (number-got _ _ c.uvarint_at.ensures c.in_ok-value.was)

pub returns-then-left-value : goal.returns-then-left-value
returns-then-left-value c =
    sym (ap string_read (string-short _ _ _ _ (number-got _ _ c.uvarint_at.ensures c.in_ok-value.was) c.if-left-value.true))

pub returns : goal.returns
returns c = string-whole _ _ _ _ (number-got _ _ c.uvarint_at.ensures c.in_ok-value.was) c.if-left-value.false
