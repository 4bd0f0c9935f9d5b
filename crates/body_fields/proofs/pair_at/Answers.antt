-- `pair_at` meets its contract, string by string.
use Rattle.std.proofs.Common.{◌∙◌}
use Rattle.wal_types.proofs.Passing.{passed_on}
use Rattle.body_fields.specs.Laws.{string-told, string_faulty}
use Rattle.body_fields.proofs.Strings.{pair_1, pair_2, pair_all}
use Rattle.body_fields.proofs.pair_at.Goals as goal

pub returns-in_err-next : goal.returns-in_err-next
returns-in_err-next c =
    passed_on c.from_residual.result _ c.from_residual.ensures.1
    ∙ pair_1 _ _ (string_faulty _ _ c.string_field_at.ensures c.in_err-next.was)

pub returns-in_err-next-2 : goal.returns-in_err-next-2
returns-in_err-next-2 c =
    passed_on c.from_residual-in_err-next-2.result _ c.from_residual-in_err-next-2.ensures.1
    ∙ pair_2 _ _ (string-told _ _ c.string_field_at.ensures c.in_ok-next.was)
    (string_faulty _ _ c.string_field_at-2.ensures c.in_err-next-2.was)

pub returns : goal.returns
returns c =
    pair_all _ _ (string-told _ _ c.string_field_at.ensures c.in_ok-next.was)
    (string-told _ _ c.string_field_at-2.ensures c.in_ok-next-2.was)
