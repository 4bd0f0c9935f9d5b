-- `strings_size` meets its contract, by the laws of `Sizing`.
use Rattle.std.proofs.Common.{◌≡◌, ◌∙◌, ◌+◌, ◌-◌, refl, sym, arith}
use Rattle.body_copy.specs.Results.Measured as measured
use Rattle.body_copy.proofs.Measuring.{SizeTold, size-turn, size-done}
use Rattle.body_copy.proofs.strings.strings_size.Goals as goal
use Rattle.body_copy.proofs.strings.strings_size.Goals.{In_ok-size}

pub loop-init : goal.loop-init
loop-init c =
    let all : c.args.count - 0 ≡ c.args.count = omega arith in
    record { few = omega arith; behind = omega arith; same = rw all refl }

-- a string more
turned : (c : In_ok-size) → let l = c.loop in
    SizeTold c.args.from.now c.args.first c.args.count l.at l.total (c.args.count - l.counter) (measured.Got c.in_ok-size.size c.in_ok-size.next)
turned c = size-turn _ _ _ _ _ _ c.loop.invariant (omega arith) _ (sym c.in_ok-size.was ∙ c.string_size.ensures)

pub returns-in_err-size : goal.returns-in_err-size
returns-in_err-size c =
    c.from_residual.ensures
    ∙ size-turn _ _ _ _ _ _ c.loop.invariant (omega arith) measured.Bad (sym c.in_err-size.was ∙ c.string_size.ensures)

pub overflow_add-total : goal.overflow_add-total
overflow_add-total c = let t = turned (goal.at.overflow_add-total c).In_ok-size in omega (arith, t.1)

pub loop-preserved : goal.loop-preserved
loop-preserved c =
    let one : c.args.count - (c.loop.counter + 1) ≡ c.args.count - c.loop.counter - 1 = omega arith in
    rw one (turned (goal.at.loop-preserved c).In_ok-size).0

pub returns : goal.returns
returns c =
    let none : c.args.count - c.loop.counter ≡ 0 = omega arith in
    size-done _ _ _ _ _ (rw none at c.loop.invariant)
