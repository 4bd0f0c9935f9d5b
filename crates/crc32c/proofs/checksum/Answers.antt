-- `checksum` meets its contract: the register from all ones, inverted.
use Rattle.std.proofs.Common.{ap, ℕ}
use Rattle.std.specs.Int.Bits.{bit_xor}
use Rattle.crc32c_format.specs.Crc.{crc32c}
use Rattle.crc32c.proofs.checksum.Goals as goal

pub returns-then-bytes-lt-LONG : goal.returns-then-bytes-lt-LONG
unfolding crc32c
returns-then-bytes-lt-LONG c = ap (λ (r : ℕ). bit_xor r 0xFFFFFFFF) c.short.ensures

pub returns-else-bytes-lt-LONG : goal.returns-else-bytes-lt-LONG
unfolding crc32c
returns-else-bytes-lt-LONG c = ap (λ (r : ℕ). bit_xor r 0xFFFFFFFF) c.long_register.ensures
