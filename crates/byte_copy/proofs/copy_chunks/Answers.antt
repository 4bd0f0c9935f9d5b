-- `copy_chunks` meets its contract: the part of the source is stored chunk by chunk.
use Rattle.std.proofs.Common.{◌≡◌, refl, ap, ◌∙◌, ◌*◌, ◌/◌, arith, length}
use Rattle.std.proofs.Math.Seq.{length-sets}
use Rattle.byte_copy.proofs.Stores.{put_more}
use Rattle.byte_copy.proofs.copy_chunks.Goals as goal

pub loop-i-init : goal.loop-i-init
loop-i-init c = (omega arith, refl, refl)

pub copy_array-requires : goal.copy_array-requires
copy_array-requires c = (omega arith, omega (arith, simp length-sets at (ap length c.loop-i.invariant.2)))

pub loop-i-preserved : goal.loop-i-preserved
loop-i-preserved c =
    let a = c.args in
    let l = c.loop-i in
    (omega arith, omega arith, c.copy_array.ensures ∙ put_more a.source.now a.from a.to.now a.at l.i 16 (omega arith) l.invariant.2)

pub shape_of-to : goal.shape_of-to
shape_of-to c = simp length-sets at (ap length c.loop-i.invariant.2)

pub returns : goal.returns
returns c = let e : c.loop-i.i ≡ c.args.count / 16 * 16 = omega arith in rw e at c.loop-i.invariant.2
