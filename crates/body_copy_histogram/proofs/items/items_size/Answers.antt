-- `items_size` meets its contract, by the laws of `Sizing`.
use Rattle.std.proofs.Common.{◌≡◌, ◌+◌, ◌-◌, arith}
use Rattle.body_copy_histogram.proofs.Elements.{measured-told, size-again, size_above, size-unread, size-done}
use Rattle.body_copy_histogram.proofs.items.items_size.Goals as goal

pub loop-init : goal.loop-init
loop-init c =
    let all : c.args.count - 0 ≡ c.args.count = omega arith in
    record { few = omega arith; whole = rw all (omega arith) }

pub overflow_add-total : goal.overflow_add-total
overflow_add-total c = omega (arith, c.in-Some.ensures.1, c.loop.invariant.few)

pub returns-in_default : goal.returns-in_default
returns-in_default c = (size-unread _ _ _ _ _ _ _ c.loop.invariant c.in_default.ensures.0, omega (arith, c.loop.invariant.few))

pub returns-then-total-gt-RECORD_LIMIT : goal.returns-then-total-gt-RECORD_LIMIT
returns-then-total-gt-RECORD_LIMIT c =
    let m = measured-told _ _ _ _ c.in-Some.ensures.0 in
    (size_above _ _ _ _ _ _ _ c.loop.invariant (omega arith) _ m.0 (omega arith), omega arith)

pub loop-preserved : goal.loop-preserved
loop-preserved c =
    let one : c.args.count - (c.loop.counter + 1) ≡ c.args.count - c.loop.counter - 1 = omega arith in
    let m = measured-told _ _ _ _ c.in-Some.ensures.0 in
    rw one (size-again _ _ _ _ _ _ _ c.loop.invariant (omega arith) _ m.0 (omega arith) _ (m.1 c.loop.at))

pub returns : goal.returns
returns c =
    let none : c.args.count - c.loop.counter ≡ 0 = omega arith in
    (size-done _ _ _ _ _ _ (rw none at c.loop.invariant), omega (arith, c.loop.invariant.few))
