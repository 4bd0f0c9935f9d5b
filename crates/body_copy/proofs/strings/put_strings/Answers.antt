-- `put_strings` meets its contract, by the laws of `Laying`.
use Rattle.std.proofs.Common.{◌≡◌, ◌+◌, ◌-◌, refl, arith}
use Rattle.body_copy.proofs.Copying.{string-room, string-more, strings-unread, strings-laid}
use Rattle.body_copy.proofs.strings.put_strings.Goals as goal

pub loop-init : goal.loop-init
loop-init c =
    let all : c.args.count - 0 ≡ c.args.count = omega arith in
    record { size = refl; end = rw all refl; same = rw all refl }

pub put_string-requires : goal.put_string-requires
put_string-requires c = string-room _ _ _ _ _ _ _ _ _ c.loop.invariant (omega arith) c.requires

pub returns-in_default : goal.returns-in_default
returns-in_default c = strings-unread _ _ _ _ _ _ _ _ _ c.loop.invariant _ c.in_default.ensures

pub loop-preserved : goal.loop-preserved
loop-preserved c =
    let one : c.args.count - (c.loop.counter + 1) ≡ c.args.count - c.loop.counter - 1 = omega arith in
    rw one (string-more _ _ _ _ _ _ _ _ _ c.loop.invariant (omega arith) _ _ _ c.in-Some.ensures)

pub shape_of-buffer : goal.shape_of-buffer
shape_of-buffer c = c.loop.invariant.size

pub returns : goal.returns
returns c =
    let none : c.args.count - c.loop.counter ≡ 0 = omega arith in
    strings-laid _ _ _ _ _ _ _ _ (rw none at c.loop.invariant)
