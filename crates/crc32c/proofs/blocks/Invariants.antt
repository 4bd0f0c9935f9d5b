-- `blocks` meets its contract. The invariant: the register after the block in hand, with the bytes
-- to come, gives what the whole gives.
use Rattle.std.proofs.Common.{◌-◌, ◌%◌, ◌≤◌, ◌≡◌, length, drop}
use Rattle.std.specs.Int.Bits.{bit_xor}
use Rattle.crc32c_format.specs.Crc.{bit_steps, register}
use Rattle.crc32c.proofs.blocks.Given as goal

abbrev pub invariant-loop-i : goal.invariant-loop-i
invariant-loop-i l =
    (l.i ≤ length l.s)
    × ((length l.s - l.i) % 8 ≡ 0)
    × (register (bit_xor (bit_xor (bit_steps 32 l.high) (bit_steps 64 l.low)) l.over) (drop l.i l.s) ≡ register (bit_xor (bit_steps 64 l.first) l.rest) (drop l.at l.s))

abbrev pub decreases-loop-i : goal.decreases-loop-i
decreases-loop-i l = length l.s - l.i
