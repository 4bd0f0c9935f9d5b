-- `put_series` meets its contract: the id, and then the list.
use Rattle.big_endian.specs.Fixed.{be8}
use Rattle.body_builder.specs.Laws.Putting.{Put, put_first, room_then, put_then}
use Rattle.body_copy.specs.Forms.{list_from}
use Rattle.body_copy.proofs.put_series.Goals as goal
use Rattle.body_copy.proofs.put_series.Goals.{After-put_be8-list}

first : (c : After-put_be8-list) →
    let a = c.args in
    Put a.buffer.now a.at (be8 a.id.0) c.put_be8-list.new.buf c.put_be8-list.result
first c = put_first _ _ _ _ _ ((list_from c.args.count c.args.from.now c.args.first)) c.requires c.put_be8-list.ensures.value c.put_be8-list.ensures.buf_after

pub put_list-requires : goal.put_list-requires
put_list-requires c = room_then _ _ _ _ (be8 c.args.id.0) ((list_from c.args.count c.args.from.now c.args.first)) c.requires (first (goal.at.put_list-requires c).After-put_be8-list)

pub returns : goal.returns
returns c = put_then _ _ _ _ (be8 c.args.id.0) ((list_from c.args.count c.args.from.now c.args.first)) c.requires _ _ (first (goal.at.returns c).After-put_be8-list) c.put_list.ensures
