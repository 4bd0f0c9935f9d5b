-- `copy_long` meets its contract: the front is stored, and then the last chunk.
use Rattle.std.proofs.Common.{◌∙◌}
use Rattle.byte_copy.proofs.copy_long.Goals as goal

pub returns : goal.returns
returns c = c.copy_array.ensures ∙ c.copy_front.ensures
