-- `front_len` meets its contract: the head, and the numbers.
use Rattle.std.proofs.Common.{arith, ◌≡◌, ap, ◌∙◌}
use Rattle.wal_types.specs.Deltas.{to_bits}
use Rattle.body_builder.specs.Sizes.{deltas_in, zigzags_of}
use Rattle.body_builder_histogram.proofs.Fields.{head-sized}
use Rattle.body_builder_histogram.proofs.Parts.{length_front}
use Rattle.body_builder_histogram.proofs.front.front_len.Goals as goal
use Rattle.body_builder_histogram.proofs.front.front_len.Goals.{After-zigzags-row}

-- the zigzags of the row's deltas
zigzagged : (c : After-zigzags-row) →
    let a = c.args in
    c.zigzags-row.result ≡ zigzags_of (deltas_in a.buffer.now a.used a.id.0 (to_bits a.time.0))
zigzagged c = c.zigzags-row.ensures ∙ ap zigzags_of c.deltas_of.ensures

pub overflow_add-result : goal.overflow_add-result
overflow_add-result c = omega (arith, c.head_size-head.ensures.1, c.numbers_size-rest.ensures.1)

pub returns : goal.returns
returns c =
    let a = c.args in
    let h = c.head_size-head.ensures in
    let n = c.numbers_size-rest.ensures in
    let head = h.0 ∙ head-sized a.buffer.now a.used a.id.0 (to_bits a.time.0) _ (zigzagged (goal.at.returns c).After-zigzags-row) in
    (omega (arith, head, n.0, length_front a.buffer.now a.used a.kind a.id.0 (to_bits a.time.0) a.numbers), omega (arith, h.1, n.1))
