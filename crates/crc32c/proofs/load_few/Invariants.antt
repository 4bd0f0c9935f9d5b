-- x is the number of the bytes from i on.
use Rattle.std.proofs.Common.{◌≡◌, drop}
use Rattle.crc32c_format.specs.Bytes.{little_endian}
use Rattle.crc32c.proofs.load_few.Given as goal

abbrev pub invariant-loop-i : goal.invariant-loop-i
invariant-loop-i l = l.x ≡ little_endian (drop l.i l.s)
