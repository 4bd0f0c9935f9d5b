-- `put` meets its contract: the bytes are stored where they fit.
use Rattle.std.proofs.Common.{◌+◌, ◌-◌, ◌≡◌, ◌≤◌, sym, ◌∙◌, ap, arith, length}
use Rattle.std.proofs.lemmas.List.Edits.{sets}
use Rattle.byte_copy.specs.PutLaws.{put-fits, put_not, end_fits, end_not}
use Rattle.byte_copy.specs.CopiedLaws.{part_stored}
use Rattle.big_endian.proofs.put.Goals as goal
use Rattle.big_endian.proofs.put.Goals.{then-buf-at-via-then-buf-at, then-buf-at-via-else-buf-at+then-buf-at-2}

pub returns-then-buf-at-clause-value : goal.returns-then-buf-at-clause-value
returns-then-buf-at-clause-value g c =
    sym (end_not _ _ _ (elim c.then-buf-at.branch [ then-buf-at-via-then-buf-at w ↦ omega arith | then-buf-at-via-else-buf-at+then-buf-at-2 w ↦ omega arith ]))

pub returns-then-buf-at-clause-buf_after : goal.returns-then-buf-at-clause-buf_after
returns-then-buf-at-clause-buf_after g c =
    sym (put_not _ _ _ (elim c.then-buf-at.branch [ then-buf-at-via-then-buf-at w ↦ omega arith | then-buf-at-via-else-buf-at+then-buf-at-2 w ↦ omega arith ]))

pub returns-clause-value : goal.returns-clause-value
returns-clause-value g c =
    let a = c.args in
    omega (arith, end_fits a.buf.now a.at a.bytes (omega arith))

pub returns-clause-buf_after : goal.returns-clause-buf_after
returns-clause-buf_after g c =
    let a = c.args in
    let after = c.copy_from_slice.ensures.after in
    let room : a.at + length a.bytes ≤ length a.buf.now = omega arith in
    let all : length c.copy_from_slice.new.self ≡ a.at + g.row.N - a.at = ap length after ∙ omega arith in
    part_stored a.buf.now c.copy_from_slice.new.self a.at (a.at + g.row.N - a.at) all (omega arith)
    ∙ ap (sets a.buf.now a.at) after
    ∙ sym (put-fits a.buf.now a.at a.bytes room)
