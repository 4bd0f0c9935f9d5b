-- `count_size` meets its contract, by the kind.
use Rattle.std.proofs.Common.{arith, sym, ap, ◌∙◌, length}
use Rattle.big_endian.specs.FixedLaws.{length-be8}
use Rattle.body_builder_histogram.proofs.Fields.{whole-count, float_count}
use Rattle.body_builder_histogram.proofs.front_numbers.count_size.Goals as goal

pub returns-in-Whole : goal.returns-in-Whole
returns-in-Whole c =
    let u = c.uvarint_len.ensures in
    (u.value ∙ ap length (whole-count _ _ c.in-Whole.is), u.lower_bound.1)

pub returns-in-Float : goal.returns-in-Float
returns-in-Float c = (sym (length-be8 _) ∙ ap length (float_count _ _ c.in-Float.is), omega arith)
