-- `put_varint` meets its contract: the zigzag's uvarint is stored.
use Rattle.std.proofs.Common.{ℕ, ap, ◌∙◌, to_z-of_z}
use Rattle.byte_copy.specs.Put.{put_at, put_end}
use Rattle.uvarint.specs.Uvarint.{uvarint}
use Rattle.varint.specs.Varint.{zigzag, varint}
use Rattle.varint.proofs.put_varint.Goals as goal

pub returns : goal.returns
unfolding varint
returns c =
    let s = c in
    let z = c.zigzag_of.ensures ∙ ap zigzag (to_z-of_z s.ranges.x) in
    let p = c.put_uvarint.ensures in record { value = p.value ∙ ap (λ (n : ℕ). put_end s.args.buf.now s.args.at (uvarint n)) z; buf_after = p.buf_after ∙ ap (λ (n : ℕ). put_at s.args.buf.now s.args.at (uvarint n)) z }
