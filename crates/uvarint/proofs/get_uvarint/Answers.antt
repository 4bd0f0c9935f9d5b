-- `get_uvarint` meets its contract: no byte, one byte, or the groups.
use Rattle.std.proofs.Common.{sym}
use Rattle.uvarint.proofs.Reading.{read_none, read_one}
use Rattle.uvarint.proofs.get_uvarint.Goals as goal

pub returns-then-buf-at : goal.returns-then-buf-at
returns-then-buf-at c = sym (read_none _ _ c.if-buf-at.true)

pub returns-then-first-lt128 : goal.returns-then-first-lt128
returns-then-first-lt128 c = sym (read_one _ _ c.if-buf-at.false c.if-first-lt128.true)
