-- `after_rest` meets its contract: the second fold, at once; what is left of the 290 bytes has
-- their register, in two parts.
use Rattle.std.proofs.Common.{arith, ◌≡◌, refl, ◌∙◌, ◌-◌, length, take, drop}
use Rattle.crc32c_format.specs.Method.Fold.{onto130}
use Rattle.crc32c_format.specs.Method.Sparse.{multiple130}
use Rattle.crc32c_format.specs.Method.Parts.{length_part, get_d_part}
use Rattle.crc32c_format.specs.Method.Window.{register-fold_once}
use Rattle.crc32c.proofs.ByRows.{two_parts}
use Rattle.crc32c.proofs.after_rest.Goals as goal

pub rest_again-requires : goal.rest_again-requires
rest_again-requires c =
    let m = c.args.m.now in
    let z = c.fold_again.new.y in
    let l : length z ≡ 354 = omega arith in
    (refl, length_part (length m - 160) m 160 (omega arith) ∙ omega arith, omega (arith, length_part 194 z 160 (omega arith)))

pub returns : goal.returns
returns c =
    let d = c in
    let q = d in
    let b = q in
    let m = b.args.m.now in
    let z = b.fold_again.new.y in
    let r = q.rest_again.new.r in
    let l : length r ≡ 130 = omega arith in
    two_parts 66 64 0 r (omega arith) d.short-c.ensures c.short.ensures
    ∙ register-fold_once onto130 multiple130 m (take (length m - 160) (drop 160 m)) z (take 194 (drop 160 z)) r 160 350
    b.fold_again.ensures q.rest_again.ensures (λ k. omega (arith, b.type_inv.m k))
    (λ j h. get_d_part (length m - 160) m 160 j (omega arith)) (λ j h. get_d_part 194 z 160 j h) (omega arith) (omega arith)
