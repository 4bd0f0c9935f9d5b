-- `put_metadata` meets its contract: the id, the metric type, and then the list.
use Rattle.std.proofs.Common.{arith, ap, ◌∙◌, length}
use Rattle.std.proofs.Math.Seq.{length-sets}
use Rattle.body_builder.proofs.Laying.{byte_room, byte_then, byte_laid}
use Rattle.body_copy.specs.Forms.{list_from}
use Rattle.body_copy.proofs.put_metadata.Goals as goal

pub bounds-buffer-second : goal.bounds-buffer-second
bounds-buffer-second c =
    let s = c in
    let w = c.put_uvarint-second.ensures in
    byte_room _ _ _ _ s.args.id.0 s.args.metric ((list_from s.args.count s.args.from.now s.args.first)) s.requires w.value w.buf_after

pub overflow_add-list : goal.overflow_add-list
overflow_add-list c =
    let s = c in
    let w = c.put_uvarint-second.ensures in
    omega (arith, byte_room _ _ _ _ s.args.id.0 s.args.metric ((list_from s.args.count s.args.from.now s.args.first)) s.requires w.value w.buf_after)

pub put_list-requires : goal.put_list-requires
put_list-requires c =
    let s = c in
    let w = c.put_uvarint-second.ensures in
    byte_then _ _ _ _ s.args.id.0 s.args.metric ((list_from s.args.count s.args.from.now s.args.first)) s.requires w.value w.buf_after

pub returns : goal.returns
returns c =
    let s = c in
    let w = c.put_uvarint-second.ensures in
    byte_laid _ _ _ _ s.args.id.0 s.args.metric ((list_from s.args.count s.args.from.now s.args.first)) s.requires w.value w.buf_after _ _ c.put_list.ensures

pub shape_of-buffer : goal.shape_of-buffer
shape_of-buffer c = ap length (returns c).1 ∙ simp length-sets
