-- `put_front` meets its contract: there is room for the head and the numbers, or nothing changes.
use Rattle.std.proofs.Common.{arith, ◌+◌, ◌≤◌, ◌<◌, ◌≡◌, sym, ap, ◌∙◌, length}
use Rattle.wal_types.specs.Deltas.{to_bits}
use Rattle.byte_copy.specs.PutLaws.{put_not, end_not}
use Rattle.body_builder.specs.Sizes.{deltas_in, zigzags_of}
use Rattle.body_builder_histogram.specs.Front.{front_bytes}
use Rattle.body_builder_histogram.proofs.Parts.{front-head-room, front-numbers-room, front-laid}
use Rattle.body_builder_histogram.proofs.front.put_front.Goals as goal
use Rattle.body_builder_histogram.proofs.front.put_front.Goals.{then-buffer-at-via-then-buffer-at, then-buffer-at-via-else-buffer-at+then-buffer-at-2, After-zigzags-row}

-- the zigzags of the row's deltas
zigzagged : (c : After-zigzags-row) →
    let a = c.args in
    c.zigzags-row.result ≡ zigzags_of (deltas_in a.buffer.now a.at a.id.0 (to_bits a.time.0))
zigzagged c = c.zigzags-row.ensures ∙ ap zigzags_of c.deltas_of.ensures

pub returns-then-buffer-at : goal.returns-then-buffer-at
returns-then-buffer-at c =
    let a = c.args in
    let n = c.front_len-size.ensures.0 in
    let out : length a.buffer.now < a.at + length (front_bytes a.buffer.now a.at a.kind a.id.0 (to_bits a.time.0) a.numbers) =
    elim c.then-buffer-at.branch [
      | then-buffer-at-via-then-buffer-at w ↦ omega arith
      | then-buffer-at-via-else-buffer-at+then-buffer-at-2 w ↦ omega (arith, n)
    ] in
    record { value = sym (end_not _ _ _ out); buffer_after = sym (put_not _ _ _ out) }

pub put_head-second-requires : goal.put_head-second-requires
put_head-second-requires c =
    let a = c.args in
    let fits : a.at + length (front_bytes a.buffer.now a.at a.kind a.id.0 (to_bits a.time.0) a.numbers) ≤ length a.buffer.now = omega (arith, c.front_len-size.ensures.0) in
    (zigzagged (goal.at.put_head-second-requires c).After-zigzags-row, front-head-room a.buffer.now a.at a.kind a.id.0 (to_bits a.time.0) a.numbers fits)

pub put_numbers-requires : goal.put_numbers-requires
put_numbers-requires c =
    let a = c.args in
    let fits : a.at + length (front_bytes a.buffer.now a.at a.kind a.id.0 (to_bits a.time.0) a.numbers) ≤ length a.buffer.now = omega (arith, c.front_len-size.ensures.0) in
    front-numbers-room a.buffer.now a.at a.kind a.id.0 (to_bits a.time.0) a.numbers fits _ _ (c.put_head-second.ensures.value, c.put_head-second.ensures.buffer_after)

pub returns : goal.returns
returns c =
    let a = c.args in
    let fits : a.at + length (front_bytes a.buffer.now a.at a.kind a.id.0 (to_bits a.time.0) a.numbers) ≤ length a.buffer.now = omega (arith, c.front_len-size.ensures.0) in
    let both = front-laid a.buffer.now a.at a.kind a.id.0 (to_bits a.time.0) a.numbers fits _ _ (c.put_head-second.ensures.value, c.put_head-second.ensures.buffer_after) _ _ (c.put_numbers.ensures.value, c.put_numbers.ensures.buffer_after) in record { value = both.0; buffer_after = both.1 }
