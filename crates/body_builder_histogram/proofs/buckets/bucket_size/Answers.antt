-- `bucket_size` meets its contract, by the kind.
use Rattle.std.proofs.Common.{arith, sym, ap, ◌∙◌, length}
use Rattle.big_endian.specs.FixedLaws.{length-be8}
use Rattle.body_builder_histogram.proofs.Fields.{whole-bucket, float_bucket}
use Rattle.body_builder_histogram.proofs.buckets.bucket_size.Goals as goal

pub returns-in-Whole : goal.returns-in-Whole
returns-in-Whole c =
    let u = c.uvarint_len.ensures in
    (u.value ∙ ap length (whole-bucket _ _ _ c.in-Whole.is c.zigzag_of_delta.ensures), u.lower_bound.1)

pub returns-in-Float : goal.returns-in-Float
returns-in-Float c = (sym (length-be8 _) ∙ ap length (float_bucket _ _ c.in-Float.is), omega arith)
