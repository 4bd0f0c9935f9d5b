use Rattle.std.proofs.Common.{ℕ, ap, arith, get_or}
use Rattle.std.specs.Int.Bits.{bit_xor}
use Rattle.crc32c_format.specs.Method.Fold.{onto130, taps}
use Rattle.crc32c_format.specs.Method.Lists.{set_more}
use Rattle.crc32c.proofs.rest_again.Goals as goal

pub loop-i-preserved : goal.loop-i-preserved
loop-i-preserved c =
    let a = c.args in
    let l = c.loop-i in
    set_more (λ (k : ℕ). bit_xor (get_or a.m.now k 0) (taps onto130 a.y.now k)) l.r l.i (omega arith) (ap (bit_xor (get_or a.m.now l.i 0)) c.taps130.ensures) l.invariant

pub returns : goal.returns
returns c = record { len = omega arith; byte = λ j h. c.loop-i.invariant j (omega arith) }
