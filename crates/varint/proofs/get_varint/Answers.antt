-- `get_varint` meets its contract, by the uvarint's answers.
use Rattle.std.proofs.Common.{Err, sym, ap, ◌∙◌, ℤ, w64, to_z-of_z}
use Rattle.std.proofs.lemmas.Result.{err_from_is_err_and}
use borrow.Author.Rules.{sfits_of}
use Rattle.varint.specs.Results.VarintRead.{Value}
use Rattle.varint.specs.Varint.{signed, read_varint}
use Rattle.varint.specs.VarintLaws.{signed-err}
use Rattle.varint.proofs.get_varint.Goals as goal

pub returns-in_err-n : goal.returns-in_err-n
unfolding read_varint
returns-in_err-n c =
    let p = err_from_is_err_and c.from_residual.result c.from_residual.ensures.1 in
    p.1 ∙ sym (signed-err _) ∙ ap (λ e. signed (Err e)) p.2 ∙ ap signed (sym c.in_err-n.was ∙ c.get_uvarint.ensures)

pub returns : goal.returns
unfolding read_varint signed
returns c =
    let x = to_z-of_z {w = w64} (sfits_of c.zigzag_back.type_inv) ∙ c.zigzag_back.ensures in
    ap (λ (x : ℤ). Value x c.in_ok-n.len) x ∙ ap signed (sym c.in_ok-n.was ∙ c.get_uvarint.ensures)
