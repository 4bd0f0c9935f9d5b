-- `put_list` meets its contract: half the number, and then the strings.
use Rattle.body_copy.proofs.Copying.{list-room, list-laid}
use Rattle.body_copy.proofs.strings.put_list.Goals as goal

pub put_strings-requires : goal.put_strings-requires
put_strings-requires c =
    let w = c.put_uvarint-strings.ensures in
    list-room _ _ _ _ _ c.requires _ _ w.value w.buf_after

pub returns : goal.returns
returns c =
    let w = c.put_uvarint-strings.ensures in
    list-laid _ _ _ _ _ c.requires _ _ w.value w.buf_after _ _ c.put_strings.ensures
