-- `put_items` meets its contract, by the laws of `Laying`.
use Rattle.std.proofs.Common.{◌≡◌, ◌+◌, ◌-◌, refl, arith}
use Rattle.body_copy_histogram.proofs.Elements.{copied-told, item_laid, items-unread, items-laid}
use Rattle.body_copy_histogram.proofs.items.put_items.Goals as goal

pub loop-init : goal.loop-init
loop-init c =
    let all : c.args.count - 0 ≡ c.args.count = omega arith in
    record { size = refl; end = rw all refl; same = rw all refl }

pub returns-in_default : goal.returns-in_default
returns-in_default c = items-unread _ _ _ _ _ _ _ _ _ _ c.loop.invariant _ c.in_default.ensures

pub loop-preserved : goal.loop-preserved
loop-preserved c =
    let one : c.args.count - (c.loop.counter + 1) ≡ c.args.count - c.loop.counter - 1 = omega arith in
    let t = copied-told _ _ _ _ _ _ c.in-Some.ensures.0 in
    rw one (item_laid _ _ _ _ _ _ _ _ _ _ c.loop.invariant (omega arith) c.requires _ _ _ (t.1 c.loop.from_place, t.0, c.in-Some.ensures.1))

pub shape_of-buffer : goal.shape_of-buffer
shape_of-buffer c = c.loop.invariant.size

pub returns : goal.returns
returns c =
    let none : c.args.count - c.loop.counter ≡ 0 = omega arith in
    items-laid _ _ _ _ _ _ _ _ _ (rw none at c.loop.invariant)
