-- `numbers_at` meets its contract: six fields.
use Rattle.std.proofs.Common.{ℤ, ap, ◌∙◌, arith, get_or, w32, to_z-of_z}
use borrow.Author.Rules.{sfits_of}
use Rattle.wal_types.proofs.Passing.{passed_on}
use Rattle.body_fields.specs.Laws.{number-got, number-fault}
use Rattle.body_histogram.specs.Results.NumbersRead as numbers
use Rattle.body_histogram.proofs.Decoding.{int_got, int_fault, int32_fits}
use Rattle.body_histogram.proofs.Chain.{numbers_1, numbers_2, numbers_3, numbers_4, numbers_5, numbers_6, numbers-all}
use Rattle.body_histogram.proofs.numbers_at.Goals as goal

pub returns-then-body-at : goal.returns-then-body-at
returns-then-body-at c = numbers_1 _ _ _ c.if-body-at.true

pub returns-in_err-schema : goal.returns-in_err-schema
returns-in_err-schema c =
    passed_on c.from_residual.result _ c.from_residual.ensures.1
    ∙ numbers_2 _ _ _ (omega arith) (int_fault _ _ c.int32_at.ensures c.in_err-schema.was)

pub returns-in_err-threshold : goal.returns-in_err-threshold
returns-in_err-threshold c =
    passed_on c.from_residual-in_err-threshold.result _ c.from_residual-in_err-threshold.ensures.1
    ∙ numbers_3 _ _ _ (omega arith)
    (int_got _ _ c.int32_at.ensures c.in_ok-schema.was)
    (number-fault _ _ c.fixed_at.ensures c.in_err-threshold.was)

pub returns-in_err-zeros : goal.returns-in_err-zeros
returns-in_err-zeros c =
    passed_on c.from_residual-in_err-zeros.result _ c.from_residual-in_err-zeros.ensures.1
    ∙ numbers_4 _ _ _ (omega arith)
    (int_got _ _ c.int32_at.ensures c.in_ok-schema.was)
    (number-got _ _ c.fixed_at.ensures c.in_ok-threshold.was)
    (number-fault _ _ c.count_at.ensures c.in_err-zeros.was)

pub returns-in_err-count : goal.returns-in_err-count
returns-in_err-count c =
    passed_on c.from_residual-in_err-count.result _ c.from_residual-in_err-count.ensures.1
    ∙ numbers_5 _ _ _ (omega arith)
    (int_got _ _ c.int32_at.ensures c.in_ok-schema.was)
    (number-got _ _ c.fixed_at.ensures c.in_ok-threshold.was)
    (number-got _ _ c.count_at.ensures c.in_ok-zeros.was)
    (number-fault _ _ c.count_at-2.ensures c.in_err-count.was)

pub returns-in_err-sum : goal.returns-in_err-sum
returns-in_err-sum c =
    passed_on c.from_residual-in_err-sum.result _ c.from_residual-in_err-sum.ensures.1
    ∙ numbers_6 _ _ _ (omega arith)
    (int_got _ _ c.int32_at.ensures c.in_ok-schema.was)
    (number-got _ _ c.fixed_at.ensures c.in_ok-threshold.was)
    (number-got _ _ c.count_at.ensures c.in_ok-zeros.was)
    (number-got _ _ c.count_at-2.ensures c.in_ok-count.was)
    (number-fault _ _ c.fixed_at-2.ensures c.in_err-sum.was)

pub returns : goal.returns
returns c =
    let x = int_got _ _ c.int32_at.ensures c.in_ok-schema.was in
    ap
    (λ (z : ℤ).
    numbers.Got (record {
      hint = get_or c.args.body.now c.args.at 0;
      schema = z;
      threshold = c.in_ok-threshold.threshold;
      zeros = c.in_ok-zeros.zeros;
      count = c.in_ok-count.count;
      sum = c.in_ok-sum.sum;
    }) c.in_ok-sum.next)
    (to_z-of_z {w = w32} (sfits_of (int32_fits _ _ x)))
    ∙ numbers-all _ _ _ (omega arith) x
    (number-got _ _ c.fixed_at.ensures c.in_ok-threshold.was)
    (number-got _ _ c.count_at.ensures c.in_ok-zeros.was)
    (number-got _ _ c.count_at-2.ensures c.in_ok-count.was)
    (number-got _ _ c.fixed_at-2.ensures c.in_ok-sum.was)
