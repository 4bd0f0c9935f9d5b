use Rattle.std.proofs.Common.{refl, arith}
use Rattle.crc32c_format.specs.Method.Fold.{onto290, xor_over, taps}
use Rattle.crc32c_format.specs.Method.Sparse.{multiple290}
use Rattle.crc32c_format.specs.Method.Window.{fold_step}
use Rattle.crc32c.proofs.fold.Goals as goal

pub loop-i-init : goal.loop-i-init
loop-i-init c = record { same = refl; byte = λ i h. absurd (omega arith); before = λ k h. refl; after = λ k h. refl }

pub loop-i-preserved : goal.loop-i-preserved
unfolding taps xor_over
loop-i-preserved c =
    let l = c.loop-i in
    fold_step onto290 multiple290 c.args.m.now c.args.y.now l.y l.i l.invariant (omega (arith, l.invariant.same))
