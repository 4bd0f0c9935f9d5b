-- `put_long_deltas` meets its contract: three puts in a row.
use Rattle.uvarint.specs.Uvarint.{uvarint}
use Rattle.big_endian.specs.Fixed.{be8}
use Rattle.body_builder.specs.Sizes.{row_tail}
use Rattle.body_builder.specs.Laws.Putting.{put_three}
use Rattle.body_builder.proofs.builder.put_long_deltas.Goals as goal

pub returns : goal.returns
unfolding row_tail
returns c =
    let a = c.args in
    let u = c.put_uvarint-second.ensures in
    let v = c.put_uvarint-third.ensures in
    let w = c.put_be8.ensures in let both = put_three a.buffer.now _ _ _ a.at _ _ _ (uvarint a.id) (uvarint a.time) (be8 a.bits) c.requires u.value u.buf_after v.value v.buf_after w.value w.buf_after in record { value = both.0; buffer_after = both.1 }
