-- `put_string` meets its contract: the length, and then the bytes.
use Rattle.std.proofs.Common.{arith, ◌+◌, ◌≤◌, ap, sym, ◌∙◌, length}
use Rattle.std.proofs.Math.Seq.{length-sets}
use Rattle.byte_copy.specs.CopiedLaws.{copied-fits}
use Rattle.body_fields.specs.Laws.{string-told}
use Rattle.body_copy.proofs.Measuring.{ok_some}
use Rattle.body_copy.proofs.Copying.{text_inside, text-room, text-laid, text-copied, text-none}
use Rattle.body_copy.proofs.strings.put_string.Goals as goal
use Rattle.body_copy.proofs.strings.put_string.Goals.{After-put_uvarint-first}

-- its text fits behind its length
fits : (c : After-put_uvarint-first) →
    c.put_uvarint-first.result + c.in_ok-start.length ≤ length c.put_uvarint-first.new.buf
fits c =
    let a = c.args in
    let t = string-told _ _ c.string_field_at.ensures (ok_some _ _ (sym c.ok.ensures.value ∙ c.in_ok-start.was)) in
    let w = c.put_uvarint-first.ensures in
    text-room _ _ _ _ _ t.0 t.1 t.2 t.3 a.buffer.now a.place c.requires _ _ w.value w.buf_after

pub overflow_add-result : goal.overflow_add-result
overflow_add-result c = omega (arith, fits (goal.at.overflow_add-result c).After-put_uvarint-first)

pub returns : goal.returns
returns c =
    let a = c.args in
    let t = string-told _ _ c.string_field_at.ensures (ok_some _ _ (sym c.ok.ensures.value ∙ c.in_ok-start.was)) in
    let w = c.put_uvarint-first.ensures in
    let inside = text_inside _ _ _ _ _ t.0 t.1 t.2 t.3 a.buffer.now a.place c.requires _ _ w.value w.buf_after in
    let laid = text-laid _ _ _ _ _ t.0 t.1 t.2 t.3 a.buffer.now a.place c.requires _ _ w.value w.buf_after _
    (c.copy.ensures ∙ copied-fits _ _ _ _ _ inside (fits (goal.at.returns c).After-put_uvarint-first)) in
    text-copied _ _ _ _ _ t.0 t.1 t.2 t.3 a.buffer.now a.place c.requires _ _ w.value w.buf_after _ laid

pub shape_of-buffer : goal.shape_of-buffer
shape_of-buffer c = ap length (returns c).1 ∙ simp length-sets

pub returns-in_err-start : goal.returns-in_err-start
returns-in_err-start c =
    let n = text-none _ c.args.buffer.now c.args.place (rw c.string_field_at.ensures at (sym c.ok.ensures.value ∙ c.in_err-start.was)) in
    (c.from_residual.ensures ∙ n.0, n.1)
