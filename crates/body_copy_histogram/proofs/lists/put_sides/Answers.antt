-- `put_sides` meets its contract: two lists.
use Rattle.body_copy_histogram.proofs.Parts.{sides_parts, first-room, second-room, both_laid}
use Rattle.body_copy_histogram.proofs.lists.put_sides.Goals as goal

pub put_list-negative-requires : goal.put_list-negative-requires
put_list-negative-requires c =
    let s = c in
    first-room (sides_parts s.args.element s.args.from.now s.args.sides) s.args.buffer.now s.args.at s.requires

pub put_list-requires : goal.put_list-requires
put_list-requires c =
    let s = c in
    second-room (sides_parts s.args.element s.args.from.now s.args.sides) s.args.buffer.now s.args.at s.requires _ _ c.put_list-negative.ensures

pub returns : goal.returns
returns c =
    let s = c in
    both_laid (sides_parts s.args.element s.args.from.now s.args.sides) s.args.buffer.now s.args.at s.requires _ _ c.put_list-negative.ensures _ _ c.put_list.ensures
