-- `read_groups` meets its contract. The loop's invariant, `Head`: what the bytes so far and those
-- left encode together.
use Rattle.std.proofs.Common.{◌≡◌, refl, ◌+◌, ◌*◌, ◌%◌, ◌^◌, ◌≤◌, ◌<◌, get_or, arith, add-zero}
use Rattle.uvarint.specs.Uvarint.{read_uvarint}
use Rattle.uvarint.proofs.Reading.{Head, joined-none, ended, last, marked, room, scaled, tenth, bad}
use Rattle.uvarint.proofs.read_groups.Goals as goal
use Rattle.uvarint.proofs.read_groups.Goals.{In-loop-i, After-loop-i}

-- one more group fits
group : (c : In-loop-i) →
    let a = c.args in
    let l = c.loop-i in
    (l.value + get_or a.buf.now (a.at + l.i) 0 % 128 * l.scale < l.scale * 128) × (l.scale * 128 ≤ 2 ^ 63)
group c = room _ _ _ _ _ c.loop-i.invariant _ (omega arith)

-- the loop ends after nine marked bytes
all-marked : (c : After-loop-i) →
    let l = c.loop-i in
    Head c.args.buf.now c.args.at l.value l.scale 9
all-marked c =
    let nine : c.loop-i.i ≡ 9 = omega arith in
    rw nine at c.loop-i.invariant

pub loop-i-init : goal.loop-i-init
unfolding read_uvarint
loop-i-init c = record { nine = omega arith; power = refl; small = omega arith; whole = rw (add-zero, joined-none) }

pub returns-then-here-i : goal.returns-then-here-i
returns-then-here-i c = ended _ _ _ _ _ c.loop-i.invariant (omega arith)

pub overflow_mul-group : goal.overflow_mul-group
overflow_mul-group c = omega (arith, group (goal.at.overflow_mul-group c).In-loop-i)

pub overflow_add-sum : goal.overflow_add-sum
overflow_add-sum c = omega (arith, group (goal.at.overflow_add-sum c).In-loop-i)

pub returns-then-b-lt128 : goal.returns-then-b-lt128
returns-then-b-lt128 c = last _ _ _ _ _ c.loop-i.invariant (omega arith) (omega arith) c.if-b-lt128.true

pub overflow_mul-scale : goal.overflow_mul-scale
overflow_mul-scale c = omega (arith, group (goal.at.overflow_mul-scale c).In-loop-i)

pub loop-i-preserved : goal.loop-i-preserved
loop-i-preserved c =
    record {
      nine = omega arith;
      power = scaled _ _ _ _ _ c.loop-i.invariant;
      small = (group (goal.at.loop-i-preserved c).In-loop-i).0;
      whole = marked _ _ _ _ _ c.loop-i.invariant (omega arith) (omega arith) c.if-b-lt128.false;
    }

pub returns-then-here-le9 : goal.returns-then-here-le9
returns-then-here-le9 c = ended _ _ _ _ _ c.loop-i.invariant (omega arith)

pub returns-then-tenth-gt1 : goal.returns-then-tenth-gt1
returns-then-tenth-gt1 c = bad _ _ _ _ (all-marked (goal.at.returns-then-tenth-gt1 c).After-loop-i) (omega arith) c.if-tenth-gt1.true

pub returns : goal.returns
returns c = tenth _ _ _ _ (all-marked (goal.at.returns c).After-loop-i) (omega arith) c.if-tenth-gt1.false
