use Rattle.std.proofs.Common.{ℕ, ◌+◌, ◌-◌, ap, ◌∙◌, arith}
use Rattle.crc32c_format.specs.Crc.{bit_steps}
use Rattle.crc32c_format.specs.Method.Steps.{bit_steps_more}
use Rattle.crc32c_table.proofs.byte_steps.Goals as goal

pub loop-preserved : goal.loop-preserved
loop-preserved c =
    bit_steps_more (8 - (c.loop.counter + 1)) (8 - c.loop.counter) c.loop.c (omega arith) c.bit_step-c.ensures ∙ c.loop.invariant

pub returns : goal.returns
unfolding bit_steps
returns c = ap (λ (k : ℕ). bit_steps k c.loop.c) {x = 0} {y = 8 - c.loop.counter} (omega arith) ∙ c.loop.invariant
