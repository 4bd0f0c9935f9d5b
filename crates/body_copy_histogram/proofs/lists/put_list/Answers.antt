-- `put_list` meets its contract: the count, and then the elements.
use Rattle.body_copy_histogram.proofs.Parts.{list_parts, first-put, second-room, both_laid}
use Rattle.body_copy_histogram.proofs.lists.put_list.Goals as goal

pub put_items-requires : goal.put_items-requires
put_items-requires c =
    let s = c in
    let e = list_parts s.args.element s.args.from.now s.args.list in
    let w = c.put_uvarint-items.ensures in
    second-room e s.args.buffer.now s.args.at s.requires _ _ (first-put e s.args.buffer.now s.args.at s.requires _ _ w.value w.buf_after)

pub returns : goal.returns
returns c =
    let s = c in
    let e = list_parts s.args.element s.args.from.now s.args.list in
    let w = c.put_uvarint-items.ensures in
    both_laid e s.args.buffer.now s.args.at s.requires _ _ (first-put e s.args.buffer.now s.args.at s.requires _ _ w.value w.buf_after) _ _ c.put_items.ensures
