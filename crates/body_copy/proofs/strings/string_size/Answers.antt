-- `string_size` meets its contract: the string is there, or not.
use Rattle.std.proofs.Common.{◌∙◌, sym, arith}
use Rattle.body_fields.specs.Laws.{string-told}
use Rattle.body_copy.proofs.Measuring.{ok_some, string-size_is, string-size-none, string_small}
use Rattle.body_copy.proofs.strings.string_size.Goals as goal

pub overflow_add-result : goal.overflow_add-result
overflow_add-result c =
    let t = string-told _ _ c.string_field_at.ensures (ok_some _ _ (sym c.ok.ensures.value ∙ c.in_ok-length.was)) in
    omega (arith, c.uvarint_len.ensures.lower_bound, string_small _ _ _ _ _ t)

pub returns : goal.returns
returns c =
    let t = string-told _ _ c.string_field_at.ensures (ok_some _ _ (sym c.ok.ensures.value ∙ c.in_ok-length.was)) in
    string-size_is _ _ _ _ _ _ t c.uvarint_len.ensures.value

pub returns-in_err-length : goal.returns-in_err-length
returns-in_err-length c =
    c.from_residual.ensures
    ∙ string-size-none _ (rw c.string_field_at.ensures at (sym c.ok.ensures.value ∙ c.in_err-length.was))
