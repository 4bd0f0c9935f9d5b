-- `string_list_at` meets its contract: the count, and then its pairs.
use Rattle.std.proofs.Common.{◌∙◌}
use Rattle.wal_types.proofs.Passing.{passed_on}
use Rattle.body_fields.specs.Laws.{number-got, number-fault}
use Rattle.body_fields.proofs.Strings.{uvarint_inside, list_1, list_all}
use Rattle.body_fields.proofs.string_list_at.Goals as goal

pub returns-in_err-value : goal.returns-in_err-value
returns-in_err-value c =
    passed_on c.from_residual.result _ c.from_residual.ensures.1
    ∙ list_1 _ _ (number-fault _ _ c.uvarint_at.ensures c.in_err-value.was)

pub pairs_at-requires : goal.pairs_at-requires
pairs_at-requires c = uvarint_inside _ _ _ _ (number-got _ _ c.uvarint_at.ensures c.in_ok-value.was)

pub returns : goal.returns
returns c = c.pairs_at.ensures ∙ list_all _ _ (number-got _ _ c.uvarint_at.ensures c.in_ok-value.was)
