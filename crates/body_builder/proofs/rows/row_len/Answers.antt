-- `row_len` meets its contract: a row has as many bytes, whatever its value.
use Rattle.std.proofs.Common.{◌≡◌, ap, ◌∙◌}
use Rattle.wal_types.specs.Deltas.{to_bits}
use Rattle.body_builder.specs.Sizes.{deltas_in, zigzags_of}
use Rattle.body_builder.proofs.Sizing.{row_sized}
use Rattle.body_builder.proofs.rows.row_len.Goals as goal
use Rattle.body_builder.proofs.rows.row_len.Goals.{After-zigzags-row}

-- the zigzags of the row's deltas
zigzagged : (c : After-zigzags-row) →
    let a = c.args in
    c.zigzags-row.result ≡ zigzags_of (deltas_in a.buffer.now a.used a.id.0 (to_bits a.time.0))
zigzagged c = c.zigzags-row.ensures ∙ ap zigzags_of c.deltas_of.ensures

pub returns : goal.returns
returns c = (
  λ bits. c.row_size.ensures.0 ∙ row_sized _ _ _ _ bits _ (zigzagged (goal.at.returns c).After-zigzags-row),
  c.row_size.ensures.1,
)
