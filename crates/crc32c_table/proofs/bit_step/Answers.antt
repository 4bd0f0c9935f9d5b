-- One bit step is the definition.
use Rattle.std.proofs.Common.{refl}
use Rattle.crc32c_format.specs.Crc.{bit_step}
use Rattle.crc32c_table.proofs.bit_step.Goals as goal

pub returns : goal.returns
unfolding bit_step
returns c = refl
