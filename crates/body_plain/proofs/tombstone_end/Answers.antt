-- `tombstone_end` meets its contract: one field after the other.
use Rattle.body_plain.proofs.Ending.{tombstone-ends}
use Rattle.body_plain.proofs.tombstone_end.Goals as goal

pub returns : goal.returns
returns c =
    tombstone-ends _ _
    c.fixed_end-second.ensures c.varint_end-third.ensures c.varint_end.ensures
