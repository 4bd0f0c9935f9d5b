-- `put_bucket` meets its contract, by the kind.
use Rattle.body_builder_histogram.proofs.Fields.{whole-bucket, float_bucket}
use Rattle.body_builder_histogram.proofs.buckets.put_bucket.Goals as goal

pub returns-in-Whole : goal.returns-in-Whole
returns-in-Whole c = record { value = rw (← whole-bucket _ _ _ c.in-Whole.is c.zigzag_of_delta.ensures) c.put_uvarint.ensures.value; buffer_after = rw (← whole-bucket _ _ _ c.in-Whole.is c.zigzag_of_delta.ensures) c.put_uvarint.ensures.buf_after }

pub returns-in-Float : goal.returns-in-Float
returns-in-Float c = record { value = rw (← float_bucket _ _ c.in-Float.is) c.put_be8.ensures.value; buffer_after = rw (← float_bucket _ _ c.in-Float.is) c.put_be8.ensures.buf_after }
