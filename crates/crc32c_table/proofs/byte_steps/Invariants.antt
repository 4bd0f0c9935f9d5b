-- The steps to come, from the register so far, are all eight of x.
use Rattle.std.proofs.Common.{◌≡◌, ◌-◌}
use Rattle.crc32c_format.specs.Crc.{bit_steps}
use Rattle.crc32c_table.proofs.byte_steps.Given as goal

abbrev pub invariant-loop : goal.invariant-loop
invariant-loop l = bit_steps (8 - l.counter) l.c ≡ bit_steps 8 l.fn.x
