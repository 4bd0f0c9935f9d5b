-- `long_row_end` meets its contract: one field after the other.
use Rattle.body_rows.proofs.Ending.{row_ends}
use Rattle.body_rows.proofs.long_row_end.Goals as goal

pub returns : goal.returns
returns c =
    row_ends _ _ c.uvarint_end-second.ensures c.uvarint_end-third.ensures c.fixed_end.ensures
