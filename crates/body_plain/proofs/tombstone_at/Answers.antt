-- `tombstone_at` meets its contract, field by field.
use Rattle.std.proofs.Common.{◌∙◌, w64, to_z-of_z}
use borrow.Author.Rules.{sfits_of}
use Rattle.wal_types.proofs.Passing.{passed_on}
use Rattle.body_fields.specs.Laws.{number-got, number-fault, signed-got, signed-fault, varint-fits}
use Rattle.body_plain.proofs.Reading.{tombstone_1, tombstone_2, tombstone_3, tombstone-all}
use Rattle.body_plain.proofs.tombstone_at.Goals as goal

pub returns-in_err-id : goal.returns-in_err-id
returns-in_err-id c =
    passed_on c.from_residual.result _ c.from_residual.ensures.1
    ∙ tombstone_1 _ _ (number-fault _ _ c.fixed_at.ensures c.in_err-id.was)

pub returns-in_err-min : goal.returns-in_err-min
returns-in_err-min c =
    let r = c.from_residual-in_err-min in
    passed_on r.result _ r.ensures.1
    ∙ tombstone_2 _ _ (number-got _ _ c.fixed_at.ensures c.in_ok-id.was)
    (signed-fault _ _ c.varint_at.ensures c.in_err-min.was)

pub returns-in_err-max : goal.returns-in_err-max
returns-in_err-max c =
    let r = c.from_residual-in_err-max in
    passed_on r.result _ r.ensures.1
    ∙ tombstone_3 _ _ (number-got _ _ c.fixed_at.ensures c.in_ok-id.was)
    (signed-got _ _ c.varint_at.ensures c.in_ok-min.was)
    (signed-fault _ _ c.varint_at-2.ensures c.in_err-max.was)

pub returns : goal.returns
returns c =
    let min = signed-got _ _ c.varint_at.ensures c.in_ok-min.was in
    let max = signed-got _ _ c.varint_at-2.ensures c.in_ok-max.was in
    tombstone-all _ _ (number-got _ _ c.fixed_at.ensures c.in_ok-id.was) min max
    (to_z-of_z {w = w64} (sfits_of (varint-fits _ _ _ _ min))) (to_z-of_z {w = w64} (sfits_of (varint-fits _ _ _ _ max)))
