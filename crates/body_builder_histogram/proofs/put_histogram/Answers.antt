-- `put_histogram` meets its contract: the head, the numbers, and then the lists.
use Rattle.body_builder.specs.Laws.Putting.{room_then, put_then}
use Rattle.body_builder_histogram.proofs.put_histogram.Goals as goal

pub returns : goal.returns
returns c =
    let head = c.put_head-second.ensures in
    let numbers = c.put_numbers-third.ensures in
    let room = c.requires.3 in
    let room₁ = room_then _ _ _ _ _ _ room (head.value, head.buffer_after) in
    let room₂ = room_then _ _ _ _ _ _ room₁ (numbers.value, numbers.buffer_after) in
    put_then _ _ _ _ _ _ room _ _ (head.value, head.buffer_after)
    (put_then _ _ _ _ _ _ room₁ _ _ (numbers.value, numbers.buffer_after)
    (put_then _ _ _ _ _ _ room₂ _ _ c.put-fourth.ensures c.put.ensures))
