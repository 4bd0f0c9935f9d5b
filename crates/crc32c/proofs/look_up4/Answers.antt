-- `look_up4` meets its contract: four bytes by a caller's table.
use Rattle.std.proofs.Common.{ap₂}
use Rattle.crc32c_format.specs.TableSum.{look_up4}
use Rattle.std.specs.Int.Bits.{bit_xor}
use Rattle.crc32c.proofs.look_up4.Goals as goal

pub returns : goal.returns
unfolding look_up4
returns c = ap₂ bit_xor c.look_up2.ensures c.look_up2-2.ensures
