-- `put_head` meets its contract: the first id and timestamp, and two puts.
use Rattle.body_builder_histogram.proofs.Fields.{firsts-room, head-laid}
use Rattle.body_builder_histogram.proofs.heads.put_head.Goals as goal

pub put_firsts-first-requires : goal.put_firsts-first-requires
put_firsts-first-requires c =
    let s = c in
    firsts-room s.args.buffer.now _ _ _ s.args.row s.requires.0 s.requires.1

pub returns : goal.returns
returns c =
    let s = c in
    let v = c.put_uvarint-second.ensures in
    let w = c.put_uvarint.ensures in let both = head-laid s.args.buffer.now _ _ _ s.args.row s.requires.0 _ _ _ _ _ _ s.requires.1 (c.put_firsts-first.ensures.value, c.put_firsts-first.ensures.buffer_after) v.value v.buf_after w.value w.buf_after in record { value = both.0; buffer_after = both.1 }
