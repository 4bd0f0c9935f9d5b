-- The first i bytes of r are stored.
use Rattle.std.proofs.Common.{◌≡◌, ℕ, ◌<◌, get_or}
use Rattle.std.specs.Int.Bits.{bit_xor}
use Rattle.crc32c_format.specs.Method.Fold.{onto290, taps}
use Rattle.crc32c.proofs.rest.Given as goal

abbrev pub invariant-loop-i : goal.invariant-loop-i
invariant-loop-i l = (k : ℕ) → k < l.i → get_or l.r k 0 ≡ bit_xor (get_or l.m k 0) (taps onto290 l.y k)
