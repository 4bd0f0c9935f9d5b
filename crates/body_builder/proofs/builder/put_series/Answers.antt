-- `put_series` meets its contract: the id, and then the list.
use Rattle.big_endian.specs.Fixed.{be8}
use Rattle.body_format.specs.Building.{entry_bytes, string_list_bytes, cut_strings}
use Rattle.body_builder.specs.Laws.Putting.{Put, put_first, room_then, put_then}
use Rattle.body_builder.proofs.builder.put_series.Goals as goal
use Rattle.body_builder.proofs.builder.put_series.Goals.{After-put_be8-list}

first : (c : After-put_be8-list) →
    let a = c.args in
    Put a.buffer.now a.at (be8 a.id.0) c.put_be8-list.new.buf c.put_be8-list.result
unfolding entry_bytes
first c = put_first _ _ _ _ _ ((string_list_bytes (cut_strings c.args.strings.now c.args.lengths.now))) c.requires.1 c.put_be8-list.ensures.value c.put_be8-list.ensures.buf_after

pub put_list-requires : goal.put_list-requires
unfolding entry_bytes
put_list-requires c = (c.requires.0, room_then _ _ _ _ (be8 c.args.id.0) ((string_list_bytes (cut_strings c.args.strings.now c.args.lengths.now))) c.requires.1 (first (goal.at.put_list-requires c).After-put_be8-list))

pub returns : goal.returns
unfolding entry_bytes
returns c = let both = put_then _ _ _ _ (be8 c.args.id.0) ((string_list_bytes (cut_strings c.args.strings.now c.args.lengths.now))) c.requires.1 _ _ (first (goal.at.returns c).After-put_be8-list) (c.put_list.ensures.value, c.put_list.ensures.buffer_after) in record { value = both.0; buffer_after = both.1 }
