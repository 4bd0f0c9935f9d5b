-- `delta_of_zigzag` meets its contract: the bits of the signed number.
use Rattle.std.proofs.Common.{◌∙◌, ap, w64, to_z-of_z}
use Rattle.wal_types.specs.Deltas.{to_bits}
use Rattle.delta.proofs.delta_of_zigzag.Goals as goal

pub returns : goal.returns
returns c =
    c.bits_of.ensures
    ∙ ap to_bits (to_z-of_z {w = w64} (record { sfits = c.zigzag_back.type_inv }) ∙ c.zigzag_back.ensures)
