-- `put_row` meets its contract: the first row, or a later one.
use Rattle.wal_types.specs.Deltas.{to_bits}
use Rattle.body_builder.proofs.Sizing.{later-row, first-room, first-row}
use Rattle.body_builder.proofs.builder.put_row.Goals as goal

pub put_deltas-requires : goal.put_deltas-requires
put_deltas-requires c =
    let a = c.args in
    let u = c.put_be8-second.ensures in
    let v = rw c.time_bits.ensures at c.put_be8-third.ensures in
    first-room a.buffer.now _ _ a.at _ _ a.id.0 (to_bits a.time.0) a.bits c.if-at-eq1.true c.requires.1 u.value u.buf_after v.value v.buf_after

pub returns-then-at-eq1 : goal.returns-then-at-eq1
returns-then-at-eq1 c =
    let a = c.args in
    let u = c.put_be8-second.ensures in
    let v = rw c.time_bits.ensures at c.put_be8-third.ensures in let both = first-row a.buffer.now _ _ a.at _ _ a.id.0 (to_bits a.time.0) a.bits c.if-at-eq1.true c.requires.1 u.value u.buf_after v.value v.buf_after
    _ _ (c.put_deltas.ensures.value, c.put_deltas.ensures.buffer_after) in record { value = both.0; buffer_after = both.1 }

pub put_deltas-requires-2 : goal.put_deltas-requires-2
put_deltas-requires-2 c =
    let a = c.args in
    rw (later-row a.buffer.now a.at a.id.0 (to_bits a.time.0) a.bits a.row c.requires.0 c.if-at-eq1.false) c.requires.1

pub returns : goal.returns
returns c =
    let a = c.args in
    let e = later-row a.buffer.now a.at a.id.0 (to_bits a.time.0) a.bits a.row c.requires.0 c.if-at-eq1.false in
    record { value = rw (← e) c.put_deltas-2.ensures.value; buffer_after = rw (← e) c.put_deltas-2.ensures.buffer_after }
