-- `varint_len` meets its contract: the length of the zigzag's uvarint.
use Rattle.std.proofs.Common.{ℕ, length, ap, ◌∙◌, to_z-of_z}
use Rattle.uvarint.specs.Uvarint.{uvarint}
use Rattle.varint.specs.Varint.{zigzag, varint}
use Rattle.varint.proofs.varint_len.Goals as goal

pub returns-clause-value : goal.returns-clause-value
unfolding varint
returns-clause-value c =
    c.uvarint_len.ensures.value ∙ ap (λ (n : ℕ). length (uvarint n)) (c.zigzag_of.ensures ∙ ap zigzag (to_z-of_z c.ranges.x))
