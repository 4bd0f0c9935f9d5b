use Rattle.std.proofs.Common.{ℕ, refl, arith, get_or}
use Rattle.std.specs.Int.Bits.{bit_xor}
use Rattle.crc32c_format.specs.Method.Fold.{onto290, xor_over, taps}
use Rattle.crc32c_format.specs.Method.Lists.{set_more}
use Rattle.crc32c.proofs.rest.Goals as goal

pub loop-i-preserved : goal.loop-i-preserved
unfolding taps xor_over
loop-i-preserved c =
    let a = c.args in
    let l = c.loop-i in
    set_more (λ (k : ℕ). bit_xor (get_or a.m.now k 0) (taps onto290 a.y.now k)) l.r l.i (omega arith) refl l.invariant

pub returns : goal.returns
returns c = record { len = omega arith; byte = λ j h. c.loop-i.invariant j (omega arith) }
