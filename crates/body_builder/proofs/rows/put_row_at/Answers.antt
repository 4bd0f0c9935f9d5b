-- `put_row_at` meets its contract: there is room for the row, or nothing changes.
use Rattle.std.proofs.Common.{◌≡◌, ◌<◌, ◌+◌, ◌∙◌, sym, ap, length, arith}
use Rattle.wal_types.specs.Deltas.{to_bits}
use Rattle.byte_copy.specs.PutLaws.{put-fits, end_fits, put_not, end_not}
use Rattle.body_format.specs.Building.{row_bytes}
use Rattle.body_builder.specs.Sizes.{zigzags_of}
use Rattle.body_builder.proofs.Sizing.{row_sized}
use Rattle.body_builder.proofs.rows.put_row_at.Goals as goal
use Rattle.body_builder.proofs.rows.put_row_at.Goals.{After-row_size-size, then-buffer-at-via-then-buffer-at, then-buffer-at-via-else-buffer-at+then-buffer-at-2}

sized : (c : After-row_size-size) → let a = c.args in
    c.row_size-size.result ≡ length (row_bytes a.buffer.now a.at a.id.0 (to_bits a.time.0) a.bits)
sized c = c.row_size-size.ensures.0 ∙ row_sized _ _ _ _ c.args.bits _ (c.zigzags-row.ensures ∙ ap zigzags_of c.deltas_of.ensures)

pub returns-then-buffer-at : goal.returns-then-buffer-at
returns-then-buffer-at c =
    let n = sized (goal.at.returns-then-buffer-at c).After-row_size-size in
    let a = c.args in
    let out : length a.buffer.now < a.at + length (row_bytes a.buffer.now a.at a.id.0 (to_bits a.time.0) a.bits) =
    elim c.then-buffer-at.branch [
      | then-buffer-at-via-then-buffer-at w ↦ omega arith
      | then-buffer-at-via-else-buffer-at+then-buffer-at-2 w ↦ omega (arith, n)
    ] in
    record { value = sym (end_not _ _ _ out); buffer_after = sym (put_not _ _ _ out) }

pub put_row-requires : goal.put_row-requires
put_row-requires c =
    let at = goal.at.put_row-requires c in
    (c.zigzags-row.ensures ∙ ap zigzags_of c.deltas_of.ensures, omega (arith, sized at.After-row_size-size))

pub returns : goal.returns
returns c =
    let n = sized (goal.at.returns c).After-row_size-size in
    let w = c.put_row.ensures in
    record { value = w.value ∙ sym (end_fits _ _ _ (omega (arith, n))); buffer_after = w.buffer_after ∙ sym (put-fits _ _ _ (omega (arith, n))) }
