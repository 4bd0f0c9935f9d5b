-- `uvarint_len` meets its contract: one byte, or by the leading zeros.
use Rattle.std.proofs.Common.{arith, sym}
use Rattle.uvarint.specs.UvarintLaws.{length-one, length-bits}
use Rattle.uvarint.proofs.uvarint_len.Goals as goal

pub returns-then-n-lt128-clause-value : goal.returns-then-n-lt128-clause-value
returns-then-n-lt128-clause-value c = sym (length-one _ c.if-n-lt128.true)

pub returns-clause-value : goal.returns-clause-value
returns-clause-value c = sym (length-bits c.args.n (omega arith) c.ranges.n.fits)
