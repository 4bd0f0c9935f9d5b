-- `metadata_end` meets its contract: one field after the other.
use Rattle.body_plain.proofs.Ending.{metadata_ends}
use Rattle.body_plain.proofs.metadata_end.Goals as goal

pub returns : goal.returns
returns c =
    metadata_ends _ _ c.uvarint_end-second.ensures c.byte_end-third.ensures c.list_end.ensures
