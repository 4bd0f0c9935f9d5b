-- `long_uvarint_at` meets its contract, by the answers of `get_uvarint`.
use Rattle.std.proofs.Common.{◌≡◌, Err, sym, ap, ◌∙◌, arith, rules, length-drop}
use Rattle.uvarint.specs.UvarintLaws.{taken}
use Rattle.wal_types.proofs.Passing.{passed_on}
use Rattle.body_format.specs.Fields.{fault, uvarint_of, uvarint_at}
use Rattle.body_format.proofs.Laws.Fields.{uvarint-got}
use Rattle.body_fields.specs.Readings.{number_read}
use Rattle.body_fields.proofs.Mapped.{was_ok, was_err}
use Rattle.body_fields.proofs.long_uvarint_at.Goals as goal

pub returns-in_err-n : goal.returns-in_err-n
unfolding uvarint_at
returns-in_err-n c =
    let h = was_err _ _ _ c.map_err.ensures.cases c.in_err-n.was in
    let g : fault c.in_err-n.field-0.0 ≡ uvarint_of c.args.at (Err h.0) = search rules in
    passed_on c.from_residual.result _ c.from_residual.ensures.1
    ∙ ap number_read (g ∙ ap (uvarint_of c.args.at) (sym h.1 ∙ c.get_uvarint.ensures))

pub overflow_add-result : goal.overflow_add-result
overflow_add-result c =
    let a = c.args in
    let t = taken _ _ _ (sym c.get_uvarint.ensures ∙ was_ok _ _ _ c.map_err.ensures.cases c.in_ok-n.was) in
    omega (arith, t.some, t.there, length-drop a.at a.body.now)

pub returns : goal.returns
returns c =
    sym (ap number_read (uvarint-got _ _ _ _ (sym c.get_uvarint.ensures ∙ was_ok _ _ _ c.map_err.ensures.cases c.in_ok-n.was)))
