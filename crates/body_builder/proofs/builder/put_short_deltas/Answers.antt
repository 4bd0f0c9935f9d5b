-- `put_short_deltas` meets its contract: two stores and a put.
use Rattle.std.proofs.Common.{arith, ap, ◌∙◌, length, length-set}
use Rattle.std.proofs.Math.Seq.{length-sets}
use Rattle.body_builder.proofs.Sizing.{short-room, short-put}
use Rattle.body_builder.proofs.builder.put_short_deltas.Goals as goal

pub overflow_add-second : goal.overflow_add-second
overflow_add-second c = omega (arith, short-room c.args.id c.args.time c.args.bits c.requires.0 c.requires.1 c.args.buffer.now c.args.at c.requires.2)

pub overflow_add-third : goal.overflow_add-third
overflow_add-third c = omega (arith, short-room c.args.id c.args.time c.args.bits c.requires.0 c.requires.1 c.args.buffer.now c.args.at c.requires.2)

pub bounds-buffer-at : goal.bounds-buffer-at
bounds-buffer-at c = omega (arith, short-room c.args.id c.args.time c.args.bits c.requires.0 c.requires.1 c.args.buffer.now c.args.at c.requires.2)

pub bounds-buffer-second : goal.bounds-buffer-second
bounds-buffer-second c = omega (arith, short-room c.args.id c.args.time c.args.bits c.requires.0 c.requires.1 c.args.buffer.now c.args.at c.requires.2, length-set c.args.buffer.now c.args.at c.args.id)

pub shape_of-buffer : goal.shape_of-buffer
shape_of-buffer c =
    let both = short-put c.args.id c.args.time c.args.bits c.requires.0 c.requires.1 c.args.buffer.now _ c.args.at _ c.requires.2 c.put_be8.ensures.value c.put_be8.ensures.buf_after in
    ap length both.1 ∙ simp length-sets

pub returns : goal.returns
returns c =
    let both = short-put c.args.id c.args.time c.args.bits c.requires.0 c.requires.1 c.args.buffer.now _ c.args.at _ c.requires.2 c.put_be8.ensures.value c.put_be8.ensures.buf_after in
    record { value = both.0; buffer_after = both.1 }
