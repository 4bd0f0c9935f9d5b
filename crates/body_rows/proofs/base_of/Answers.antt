-- `base_of` meets its contract: two fields of eight bytes.
use Rattle.std.proofs.Common.{arith, ap, ◌∙◌}
use Rattle.wal_types.specs.DeltaLaws.{to_from}
use Rattle.wal_types.specs.Deltas.{to_bits}
use Rattle.body_rows.proofs.base_of.Goals as goal

pub returns : goal.returns
returns c =
    let bits = c.get_be8-time in
    record {
      same_id = c.get_be8-id.ensures;
      same-time = ap to_bits c.time_of_bits.ensures ∙ to_from bits.result (omega arith) ∙ bits.ensures;
    }
