-- `heads_size` meets its contract: a length takes 10 bytes at most.
use Rattle.std.proofs.Common.{arith}
use Rattle.body_builder.proofs.strings.heads_size.Goals as goal

pub overflow_add-size : goal.overflow_add-size
overflow_add-size c = omega (arith, c.uvarint_len-size.ensures.lower_bound)
