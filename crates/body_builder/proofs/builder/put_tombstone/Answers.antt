-- `put_tombstone` meets its contract: three puts in a row.
use Rattle.std.proofs.Common.{rules, w64, SFits, to_z-of_z}
use Rattle.varint.specs.Varint.{varint}
use Rattle.big_endian.specs.Fixed.{be8}
use Rattle.body_format.specs.Building.{entry_bytes}
use Rattle.body_builder.specs.Laws.Putting.{put_three}
use Rattle.body_builder.proofs.builder.put_tombstone.Goals as goal

pub returns : goal.returns
unfolding entry_bytes
returns c =
    let a = c.args in
    let u = c.put_be8-second.ensures in
    let f : SFits w64 c.args.min.0 = search rules in
    let g : SFits w64 c.args.max.0 = search rules in
    let v = rw (to_z-of_z {w = w64} f) at c.put_varint-third.ensures in
    let w = rw (to_z-of_z {w = w64} g) at c.put_varint.ensures in let both = put_three a.buffer.now _ _ _ a.at _ _ _ (be8 a.id.0) (varint a.min.0) (varint a.max.0) c.requires u.value u.buf_after v.value v.buf_after w.value w.buf_after in record { value = both.0; buffer_after = both.1 }
