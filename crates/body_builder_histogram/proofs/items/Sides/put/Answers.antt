-- `put` meets its contract: one list, and then the other.
use Rattle.std.proofs.Common.{length-append, arith}
use Rattle.body_builder.specs.Laws.Putting.{room_then, put_then}
use Rattle.body_builder_histogram.specs.Items.{bytes_of, sides_of}
use Rattle.body_builder_histogram.proofs.items.Sides.put.Goals as goal

pub put-negative-requires : goal.put-negative-requires
unfolding sides_of
put-negative-requires c =
    let s = c.args.self in
    (c.requires.0, omega (arith, c.requires.2, length-append (bytes_of s.positive) (bytes_of s.negative)))

pub put-requires : goal.put-requires
unfolding sides_of
put-requires c = (c.requires.1, room_then _ _ _ _ _ _ c.requires.2 c.put-negative.ensures)

pub returns : goal.returns
unfolding sides_of
returns c = put_then _ _ _ _ _ _ c.requires.2 _ _ c.put-negative.ensures c.put.ensures
