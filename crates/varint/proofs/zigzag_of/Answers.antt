-- `zigzag_of` meets its contract, by the sign of x: its bits, doubled, lose the sign's.
use Rattle.std.proofs.Common.{◌≡◌, suc, ◌+◌, ◌*◌, ◌-◌, ◌%◌, ◌^◌, arith, sym, ap, ◌∙◌, of_z, w64, to_z-of_z}
use Rattle.std.specs.Int.Signed.{mag}
use Rattle.varint.specs.Varint.{zigzag}
use Rattle.numbers.specs.Signs.{x_pos, x_neg}
use Rattle.varint.proofs.zigzag_of.Goals as goal

pub returns-then-x-ge0 : goal.returns-then-x-ge0
unfolding zigzag
returns-then-x-ge0 c =
    let x = x_pos c.args.x c.ranges.x c.if-x-ge0.true in
    let bits : c.cast_unsigned-bits.result ≡ mag c.args.x =
    c.cast_unsigned-bits.ensures ∙ ap (of_z w64) (to_z-of_z c.ranges.x ∙ x) in
    let twice : (c.cast_unsigned-bits.result + c.cast_unsigned-bits.result) % 2 ^ 64 ≡ mag c.args.x * 2 = omega (arith, bits, c.ranges.x.sfits) in
    twice ∙ sym (ap zigzag x)

pub returns-else-x-ge0 : goal.returns-else-x-ge0
unfolding zigzag
returns-else-x-ge0 c =
    let x = x_neg c.args.x c.ranges.x c.if-x-ge0.false in
    let bits : c.cast_unsigned-bits.result ≡ 2 ^ 64 - suc (mag c.args.x) =
    c.cast_unsigned-bits.ensures ∙ ap (of_z w64) (to_z-of_z c.ranges.x ∙ x) in
    let twice : 2 ^ 64 - 1 - (c.cast_unsigned-bits.result + c.cast_unsigned-bits.result) % 2 ^ 64 ≡ mag c.args.x * 2 + 1 =
    omega (arith, bits, c.ranges.x.sfits) in
    twice ∙ sym (ap zigzag x)
