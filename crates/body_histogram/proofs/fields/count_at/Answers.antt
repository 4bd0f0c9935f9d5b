-- `count_at` meets its contract: by the bucket kind.
use Rattle.std.proofs.Common.{◌∙◌}
use Rattle.body_histogram.proofs.Decoding.{count-whole, count_float}
use Rattle.body_histogram.proofs.fields.count_at.Goals as goal

pub returns-in-Whole : goal.returns-in-Whole
returns-in-Whole c = c.uvarint_at.ensures ∙ count-whole _ _ _ c.in-Whole.is

pub returns-in-Float : goal.returns-in-Float
returns-in-Float c = c.fixed_at.ensures ∙ count_float _ _ _ c.in-Float.is
