-- `uvarint_at` meets its contract: one byte, or any number of them.
use Rattle.std.proofs.Common.{sym, ap}
use Rattle.body_fields.specs.Readings.{number_read}
use Rattle.body_fields.specs.Laws.{uvarint-one}
use Rattle.body_fields.proofs.uvarint_at.Goals as goal

pub returns-then-value-lt128 : goal.returns-then-value-lt128
returns-then-value-lt128 c = sym (ap number_read (uvarint-one _ _ c.if-at-body.true c.if-value-lt128.true))
