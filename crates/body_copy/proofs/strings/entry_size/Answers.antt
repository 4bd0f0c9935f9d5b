-- `entry_size` meets its contract.
use Rattle.std.proofs.Common.{◌∙◌, sym, eq-eqb, ne_eqb, arith}
use Rattle.body_copy.proofs.Copying.{told-size, told-bad, odd_bad}
use Rattle.body_copy.proofs.strings.entry_size.Goals as goal

pub returns-then-count-eq1 : goal.returns-then-count-eq1
returns-then-count-eq1 c = (odd_bad _ _ (eq-eqb _ _ c.if-count-eq1.true), tt)

pub returns-in_err-strings : goal.returns-in_err-strings
returns-in_err-strings c =
    rw c.from_residual.ensures (told-bad _ _ _ _ c.strings_size.ensures c.in_err-strings.was, tt)

pub overflow_add-result-2 : goal.overflow_add-result-2
overflow_add-result-2 c =
    let t = told-size _ _ _ _ _ c.strings_size.ensures c.in_ok-strings.was in
    omega (arith, c.uvarint_len.ensures.lower_bound, t.small)

pub returns : goal.returns
returns c =
    let t = told-size _ _ _ _ _ c.strings_size.ensures c.in_ok-strings.was in
    (sym (ne_eqb _ _ c.if-count-eq1.false) ∙ t.bad, omega (arith, t.is _ c.uvarint_len.ensures.value))
