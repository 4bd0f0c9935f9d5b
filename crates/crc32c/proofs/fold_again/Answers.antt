use Rattle.std.proofs.Common.{ℕ, ◌+◌, refl, sym, subst, arith, get_or, set}
use Rattle.std.specs.Int.Bits.{bit_xor}
use Rattle.crc32c_format.specs.Method.Fold.{onto130, Folded}
use Rattle.crc32c_format.specs.Method.Sparse.{multiple130}
use Rattle.crc32c_format.specs.Method.Window.{fold_step}
use Rattle.crc32c.proofs.fold_again.Goals as goal

pub loop-i-init : goal.loop-i-init
loop-i-init c = record { same = refl; byte = λ i h. absurd (omega arith); before = λ k h. refl; after = λ k h. refl }

pub loop-i-preserved : goal.loop-i-preserved
loop-i-preserved c =
    let a = c.args in
    let m = a.m.now in
    let l = c.loop-i in
    subst (λ (t : ℕ). Folded onto130 m a.y.now (set l.y (l.i + 130) (bit_xor (get_or m l.i 0) t)) (l.i + 1)) (sym c.taps130.ensures)
    (fold_step onto130 multiple130 m a.y.now l.y l.i l.invariant (omega (arith, l.invariant.same)))
