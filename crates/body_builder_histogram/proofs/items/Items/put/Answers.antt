-- `put` meets its contract: the count, and then the elements.
use Rattle.std.proofs.Common.{◌<◌, length, arith}
use Rattle.body_builder_histogram.specs.Items.{items_of, bytes_of}
use Rattle.body_builder_histogram.proofs.Laying.{laid, item_room, item_laid, list-room, list-laid}
use Rattle.body_builder_histogram.proofs.Stepping.{items-step}
use Rattle.body_builder_histogram.proofs.items.Items.put.Goals as goal

pub put_at-place-requires : goal.put_at-place-requires
unfolding bytes_of
put_at-place-requires c =
    let l = c.loop-i in
    let w = c.put_uvarint-place.ensures in
    let h : l.i < length (items_of c.args.self) = omega (arith, c.len-count.ensures) in
    let room = list-room _ _ _ _ c.requires.1 _ _ _ c.len-count.ensures w.value w.buf_after in
    (c.requires.0, h, item_room _ _ _ _ _ _ _ l.invariant _ (items-step _ _ c.requires.0 h) h room)

pub loop-i-preserved : goal.loop-i-preserved
unfolding bytes_of
loop-i-preserved c =
    let l = c.loop-i in
    let w = c.put_uvarint-place.ensures in
    let h : l.i < length (items_of c.args.self) = omega (arith, c.len-count.ensures) in
    let room = list-room _ _ _ _ c.requires.1 _ _ _ c.len-count.ensures w.value w.buf_after in
    item_laid _ _ _ _ _ _ _ l.invariant _ (items-step _ _ c.requires.0 h) h room _ _ c.put_at-place.ensures

pub returns : goal.returns
unfolding bytes_of
returns c =
    let w = c.put_uvarint-place.ensures in
    let all = laid _ _ _ _ _ _ _ c.loop-i.invariant (omega (arith, c.len-count.ensures)) in
    list-laid _ _ _ _ c.requires.1 _ _ _ c.len-count.ensures w.value w.buf_after _ _ all
