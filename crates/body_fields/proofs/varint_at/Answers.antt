-- `varint_at` meets its contract, by the answers of `get_varint`.
use Rattle.std.proofs.Common.{◌≡◌, ◌+◌, Err, ℤ, sym, ap, ◌∙◌, arith, rules, length-drop, w64, to_z-of_z}
use borrow.Author.Rules.{sfits_of}
use Rattle.varint.specs.VarintLaws.{taken-varint}
use Rattle.wal_types.proofs.Passing.{passed_on}
use Rattle.body_format.specs.Fields.{fault, varint_of, varint_at}
use Rattle.body_format.proofs.Laws.Fields.{varint-got}
use Rattle.body_fields.specs.Results.SignedRead as signed
use Rattle.body_fields.specs.Readings.{signed_read}
use Rattle.body_fields.proofs.Mapped.{was_ok, was_err}
use Rattle.body_fields.proofs.varint_at.Goals as goal

pub returns-in_err-x : goal.returns-in_err-x
unfolding varint_at
returns-in_err-x c =
    let h = was_err _ _ _ c.map_err.ensures.cases c.in_err-x.was in
    let g : fault c.in_err-x.field-0.0 ≡ varint_of c.args.at (Err h.0) = search rules in
    passed_on c.from_residual.result _ c.from_residual.ensures.1
    ∙ ap signed_read (g ∙ ap (varint_of c.args.at) (sym h.1 ∙ c.get_varint.ensures))

pub overflow_add-result : goal.overflow_add-result
overflow_add-result c =
    let a = c.args in
    let t = (taken-varint _ _ _ (sym c.get_varint.ensures ∙ was_ok _ _ _ c.map_err.ensures.cases c.in_ok-x.was)).0 in
    omega (arith, t.some, t.there, length-drop a.at a.body.now)

pub returns : goal.returns
returns c =
    let g = sym c.get_varint.ensures ∙ was_ok _ _ _ c.map_err.ensures.cases c.in_ok-x.was in
    let x = (taken-varint _ _ _ g).1 in
    ap (λ (z : ℤ). signed.Got z (c.args.at + c.in_ok-x.len)) (to_z-of_z {w = w64} (sfits_of x))
    ∙ sym (ap signed_read (varint-got _ _ _ _ g))
