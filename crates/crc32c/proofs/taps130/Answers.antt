-- `taps130` meets its contract: the definition, term by term.
use Rattle.std.proofs.Common.{refl}
use Rattle.crc32c_format.specs.Method.Fold.{xor_over, taps}
use Rattle.crc32c.proofs.taps130.Goals as goal

pub returns : goal.returns
unfolding taps xor_over
returns c = refl
