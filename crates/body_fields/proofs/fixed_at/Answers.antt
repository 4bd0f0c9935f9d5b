-- `fixed_at` meets its contract: eight bytes, if they are there.
use Rattle.std.proofs.Common.{ℕ, ◌+◌, arith, sym, ap, ◌∙◌}
use Rattle.body_format.proofs.Laws.Fields.{fixed_got, fixed_short}
use Rattle.body_fields.specs.Results.NumberRead as number
use Rattle.body_fields.specs.Readings.{number_read}
use Rattle.body_fields.proofs.fixed_at.Goals as goal

pub returns-then-body-at : goal.returns-then-body-at
returns-then-body-at c = sym (ap number_read (fixed_short _ _ (omega arith)))

pub returns-then-body-at-lt8 : goal.returns-then-body-at-lt8
returns-then-body-at-lt8 c = sym (ap number_read (fixed_short _ _ (omega arith)))

pub returns : goal.returns
returns c = ap (λ (n : ℕ). number.Got n (c.args.at + 8)) c.get_be8.ensures ∙ sym (ap number_read (fixed_got _ _ (omega arith)))
