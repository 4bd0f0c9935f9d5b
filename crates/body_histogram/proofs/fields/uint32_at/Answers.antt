-- `uint32_at` meets its contract: a uvarint that has 32 bits, or more.
use Rattle.std.specs.Prelude.{◌≡◌, ℕ}
use Rattle.std.proofs.Common.{sym, ap, ◌∙◌, arith, rules}
use Rattle.std.proofs.lemmas.Result.{OkIff-at_ok, OkIff-at_err}
use Rattle.wal_types.specs.declared.Refusal.TheVariants.{BadRange}
use Rattle.wal_types.specs.Terms.{offset}
use Rattle.wal_types.proofs.Passing.{passed_on}
use Rattle.body_fields.specs.Results.NumberRead as number
use Rattle.body_fields.specs.Readings.{number_read}
use Rattle.body_fields.specs.Laws.{number-got, number-fault}
use Rattle.body_fields.proofs.Mapped.{was_ok, was_err}
use Rattle.body_histogram.proofs.Decoding.{uint32_got, uint32_bad, uint32_fault}
use Rattle.body_histogram.proofs.fields.uint32_at.Goals as goal

pub returns : goal.returns
returns c =
    let u = OkIff-at_ok _ _ _ _ c.try_from.ensures (was_ok _ _ _ c.map_err.ensures.cases c.in_ok-value.was) in
    ap (λ (n : ℕ). number.Got n c.in_ok-wide.next) u.1
    ∙ sym (ap number_read (uint32_got _ _ (number-got _ _ c.uvarint_at.ensures c.in_ok-wide.was) (omega (arith, u.0))))

pub returns-in_err-value : goal.returns-in_err-value
returns-in_err-value c =
    let e = was_err _ _ _ c.map_err.ensures.cases c.in_err-value.was in
    let wide = OkIff-at_err _ _ _ _ c.try_from.ensures e.1 in
    let why : c.in_err-value.field-0.0 ≡ BadRange (offset c.args.at) = search rules in
    passed_on c.from_residual-in_err-value.result _ c.from_residual-in_err-value.ensures.1
    ∙ ap (λ w. number.Fault w) why
    ∙ sym (ap number_read (uint32_bad _ _ (number-got _ _ c.uvarint_at.ensures c.in_ok-wide.was) (omega (arith, wide))))

pub returns-in_err-wide : goal.returns-in_err-wide
returns-in_err-wide c =
    passed_on c.from_residual.result _ c.from_residual.ensures.1
    ∙ sym (ap number_read (uint32_fault _ _ (number-fault _ _ c.uvarint_at.ensures c.in_err-wide.was)))
