-- `put_metadata` meets its contract: the id, the metric type, and then the list.
use Rattle.std.proofs.Common.{arith, ap, ◌∙◌, length}
use Rattle.std.proofs.Math.Seq.{length-sets}
use Rattle.body_format.specs.Building.{entry_bytes, string_list_bytes, cut_strings}
use Rattle.body_builder.proofs.Laying.{byte_room, byte_then, byte_laid}
use Rattle.body_builder.proofs.builder.put_metadata.Goals as goal

pub bounds-buffer-second : goal.bounds-buffer-second
unfolding entry_bytes
bounds-buffer-second c =
    let w = c.put_uvarint-second.ensures in
    byte_room _ _ _ _ c.args.id.0 c.args.metric ((string_list_bytes (cut_strings c.args.strings.now c.args.lengths.now))) c.requires.1 w.value w.buf_after

pub overflow_add-list : goal.overflow_add-list
unfolding entry_bytes
overflow_add-list c =
    let w = c.put_uvarint-second.ensures in
    omega (arith, byte_room _ _ _ _ c.args.id.0 c.args.metric ((string_list_bytes (cut_strings c.args.strings.now c.args.lengths.now))) c.requires.1 w.value w.buf_after)

pub put_list-requires : goal.put_list-requires
unfolding entry_bytes
put_list-requires c =
    let w = c.put_uvarint-second.ensures in
    (c.requires.0, byte_then _ _ _ _ c.args.id.0 c.args.metric ((string_list_bytes (cut_strings c.args.strings.now c.args.lengths.now))) c.requires.1 w.value w.buf_after)

pub shape_of-buffer : goal.shape_of-buffer
unfolding entry_bytes
shape_of-buffer c =
    let w = c.put_uvarint-second.ensures in
    let both = byte_laid _ _ _ _ c.args.id.0 c.args.metric ((string_list_bytes (cut_strings c.args.strings.now c.args.lengths.now))) c.requires.1 w.value w.buf_after _ _ (c.put_list.ensures.value, c.put_list.ensures.buffer_after) in
    ap length both.1 ∙ simp length-sets

pub returns : goal.returns
unfolding entry_bytes
returns c =
    let w = c.put_uvarint-second.ensures in
    let both = byte_laid _ _ _ _ c.args.id.0 c.args.metric ((string_list_bytes (cut_strings c.args.strings.now c.args.lengths.now))) c.requires.1 w.value w.buf_after _ _ (c.put_list.ensures.value, c.put_list.ensures.buffer_after) in
    record { value = both.0; buffer_after = both.1 }
