-- `put_list` meets its contract: the count, and then the strings.
use Rattle.body_builder.proofs.Laying.{list-room, list-laid}
use Rattle.body_builder.proofs.strings.put_list.Goals as goal

pub put_strings-requires : goal.put_strings-requires
put_strings-requires c =
    let w = c.put_uvarint-first.ensures in
    (c.requires.0, list-room _ _ _ _ c.requires.1 _ _ w.value w.buf_after)

pub returns : goal.returns
returns c =
    let w = c.put_uvarint-first.ensures in let both = list-laid _ _ _ _ c.requires.1 _ _ w.value w.buf_after _ _ (c.put_strings.ensures.value, c.put_strings.ensures.buffer_after) in record { value = both.0; buffer_after = both.1 }
