-- `byte_at` meets its contract.
use Rattle.std.proofs.Common.{sym, ap}
use Rattle.body_format.proofs.Laws.Fields.{byte_got, byte_short}
use Rattle.body_fields.specs.Readings.{number_read}
use Rattle.body_fields.proofs.byte_at.Goals as goal

pub returns-then-body-at : goal.returns-then-body-at
returns-then-body-at c = sym (ap number_read (byte_short _ _ c.if-body-at.true))

pub returns : goal.returns
returns c = sym (ap number_read (byte_got _ _ c.if-body-at.false))
