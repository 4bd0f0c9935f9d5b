-- `put_view` meets its contract: the front, and then the lists.
use Rattle.body_copy_histogram.proofs.Parts.{view_parts, first-put, second-room, both_laid}
use Rattle.body_copy_histogram.proofs.put_view.Goals as goal

pub put_lists-requires : goal.put_lists-requires
put_lists-requires c =
    let s = c in
    let e = view_parts s.args.kind s.args.from.now s.args.buffer.now s.args.at s.args.view in
    let w = c.put_front-lists.ensures in
    second-room e s.args.buffer.now s.args.at s.requires _ _ (first-put e s.args.buffer.now s.args.at s.requires _ _ w.value w.buffer_after)

pub returns : goal.returns
returns c =
    let s = c in
    let e = view_parts s.args.kind s.args.from.now s.args.buffer.now s.args.at s.args.view in
    let w = c.put_front-lists.ensures in
    both_laid e s.args.buffer.now s.args.at s.requires _ _ (first-put e s.args.buffer.now s.args.at s.requires _ _ w.value w.buffer_after) _ _ c.put_lists.ensures
