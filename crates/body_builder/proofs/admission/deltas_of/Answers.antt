-- `deltas_of` meets its contract: both are 0, or two differences modulo 2^64.
use Rattle.std.proofs.Common.{arith, eq-eqb, ne_eqb, ℕ, ap, ap₂, ◌∙◌}
use Rattle.wal_types.specs.DeltaLaws.{to_from}
use Rattle.wal_types.specs.Deltas.{to_bits, minus}
use Rattle.body_builder.specs.declared.admission.Deltas.{Deltas}
use Rattle.body_builder.proofs.admission.deltas_of.Goals as goal

pub returns-then-used-eq1 : goal.returns-then-used-eq1
returns-then-used-eq1 c = rw (eq-eqb _ _ c.if-used-eq1.true)

pub returns : goal.returns
returns c =
    let a = c.args in
    let deltas : ℕ → ℕ → Deltas = λ i t. record { id = i; time = t } in
    let bits = c.get_be8-2 in
    let i = c.id_delta.ensures ∙ ap (minus a.id.0) c.get_be8.ensures in
    let t =
    c.time_delta.ensures
    ∙ ap (minus (to_bits a.time.0)) (ap to_bits c.time_of_bits-first_time.ensures ∙ to_from bits.result (omega arith) ∙ bits.ensures) in
    rw (ne_eqb _ _ c.if-used-eq1.false) (ap₂ deltas i t)
