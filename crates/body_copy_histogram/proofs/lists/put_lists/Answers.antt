-- `put_lists` meets its contract: the spans, and then the buckets.
use Rattle.body_copy_histogram.proofs.Parts.{lists_parts, first-room, second-room, both_laid}
use Rattle.body_copy_histogram.proofs.lists.put_lists.Goals as goal

pub put_sides-second-requires : goal.put_sides-second-requires
put_sides-second-requires c =
    let s = c in
    first-room (lists_parts s.args.kind s.args.from.now s.args.spans s.args.buckets) s.args.buffer.now s.args.at s.requires

pub put_sides-requires : goal.put_sides-requires
put_sides-requires c =
    let s = c in
    second-room (lists_parts s.args.kind s.args.from.now s.args.spans s.args.buckets) s.args.buffer.now s.args.at s.requires _ _ c.put_sides-second.ensures

pub returns : goal.returns
returns c =
    let s = c in
    both_laid (lists_parts s.args.kind s.args.from.now s.args.spans s.args.buckets) s.args.buffer.now s.args.at s.requires _ _ c.put_sides-second.ensures _ _ c.put_sides.ensures
