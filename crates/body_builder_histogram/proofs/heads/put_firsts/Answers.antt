-- `put_firsts` meets its contract: nothing, or two puts in a row.
use Rattle.std.proofs.Common.{arith, refl}
use Rattle.wal_types.specs.Deltas.{to_bits}
use Rattle.big_endian.specs.Fixed.{be8}
use Rattle.body_builder_histogram.proofs.Fields.{firsts-first, firsts-none, put_two}
use Rattle.body_builder_histogram.proofs.heads.put_firsts.Goals as goal

pub returns-then-at-ne1 : goal.returns-then-at-ne1
returns-then-at-ne1 c = let e = firsts-none c.args.at c.args.id.0 (to_bits c.args.time.0) c.if-at-ne1.true in record { value = rw e (omega arith); buffer_after = rw e refl }

pub returns : goal.returns
returns c =
    let s = c in
    let bytes = firsts-first s.args.at s.args.id.0 (to_bits s.args.time.0) c.if-at-ne1.false in
    let v = c.put_be8-second.ensures in
    let w = rw c.time_bits.ensures at c.put_be8.ensures in let both = put_two s.args.buffer.now _ _ _ _ _ (be8 s.args.id.0) (be8 (to_bits s.args.time.0)) (rw bytes at s.requires) v.value v.buf_after w.value w.buf_after in record { value = rw bytes both.0; buffer_after = rw bytes both.1 }
