-- `put_strings` meets its contract, by the laws of `Laying`.
use Rattle.std.proofs.Common.{◌<◌, ◌∙◌, length, arith}
use Rattle.byte_copy.specs.CopiedLaws.{copied-fits}
use Rattle.body_builder.proofs.Laying.{laying, laid, string_inside, string-room, string-laid}
use Rattle.body_builder.proofs.strings.put_strings.Goals as goal

pub loop-length-init : goal.loop-length-init
loop-length-init c = laying _ _ _ _ c.requires.0

pub overflow_add-place : goal.overflow_add-place
overflow_add-place c =
    let l = c.loop-length in
    let w = c.put_uvarint-start.ensures in
    let h : l.length-index < length c.args.lengths.now = omega arith in
    omega (arith, string-room _ _ _ _ _ _ _ _ l.invariant h c.requires.1 _ _ w.value w.buf_after)

pub overflow_add-from : goal.overflow_add-from
overflow_add-from c =
    let l = c.loop-length in
    let w = c.put_uvarint-start.ensures in
    let h : l.length-index < length c.args.lengths.now = omega arith in
    omega (arith, string_inside _ _ _ _ _ _ _ _ l.invariant h c.requires.1 _ _ w.value w.buf_after)

pub loop-length-preserved : goal.loop-length-preserved
loop-length-preserved c =
    let l = c.loop-length in
    let w = c.put_uvarint-start.ensures in
    let h : l.length-index < length c.args.lengths.now = omega arith in
    let inside = string_inside _ _ _ _ _ _ _ _ l.invariant h c.requires.1 _ _ w.value w.buf_after in
    let room = string-room _ _ _ _ _ _ _ _ l.invariant h c.requires.1 _ _ w.value w.buf_after in
    string-laid _ _ _ _ _ _ _ _ l.invariant h c.requires.1 _ _ w.value w.buf_after _ (c.copy.ensures ∙ copied-fits _ _ _ _ _ inside room)

pub shape_of-buffer : goal.shape_of-buffer
shape_of-buffer c = c.loop-length.invariant.size

pub returns : goal.returns
returns c =
    let both = laid _ _ _ _ _ _ _ _ c.loop-length.invariant c.loop-length-test.false in
    record { value = both.0; buffer_after = both.1 }
