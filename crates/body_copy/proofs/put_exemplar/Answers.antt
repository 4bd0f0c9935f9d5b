-- `put_exemplar` meets its contract: the row, and then the list.
use Rattle.wal_types.specs.Deltas.{to_bits}
use Rattle.body_format.specs.Building.{row_bytes}
use Rattle.body_builder.specs.Laws.Putting.{Put, put_first, room_then, put_then}
use Rattle.body_copy.specs.Forms.{list_from}
use Rattle.body_copy.proofs.put_exemplar.Goals as goal
use Rattle.body_copy.proofs.put_exemplar.Goals.{After-put_row_at-list}

first : (c : After-put_row_at-list) →
    let s = c in
    Put s.args.buffer.now s.args.at ((row_bytes s.args.buffer.now s.args.at s.args.id.0 (to_bits s.args.time.0) s.args.bits)) c.put_row_at-list.new.buffer c.put_row_at-list.result
first c = put_first _ _ _ _ ((row_bytes c.args.buffer.now c.args.at c.args.id.0 (to_bits c.args.time.0) c.args.bits)) ((list_from c.args.count c.args.from.now c.args.first)) c.requires c.put_row_at-list.ensures.value c.put_row_at-list.ensures.buffer_after

pub put_list-requires : goal.put_list-requires
put_list-requires c = room_then _ _ _ _ ((row_bytes c.args.buffer.now c.args.at c.args.id.0 (to_bits c.args.time.0) c.args.bits)) ((list_from c.args.count c.args.from.now c.args.first)) c.requires (first (goal.at.put_list-requires c).After-put_row_at-list)

pub returns : goal.returns
returns c = put_then _ _ _ _ ((row_bytes c.args.buffer.now c.args.at c.args.id.0 (to_bits c.args.time.0) c.args.bits)) ((list_from c.args.count c.args.from.now c.args.first)) c.requires _ _ (first (goal.at.returns c).After-put_row_at-list) c.put_list.ensures
