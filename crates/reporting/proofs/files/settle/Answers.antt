-- `settle` meets its contract: a segment's answer stays, and one that adds nothing is refused on the
-- report that was before.
use Rattle.std.proofs.Common.{sym, ap, subst, refl}
use Rattle.reporting.specs.Choices.{Settled}
use Rattle.reporting.specs.Taken.{Taken, numbered}
use Rattle.reporting.proofs.Refusing.{settled_nothing}
use Rattle.reporting.proofs.files.settle.Goals as goal

pub returns-in-Ok : goal.returns-in-Ok
returns-in-Ok c =
    subst (λ (z : Taken). Settled z c.args.before.now c.args.report.now c.in-Ok.answer c.args.report.now) (sym (ap numbered c.in-Ok.is)) (refl, refl)

pub returns-in-Err : goal.returns-in-Err
returns-in-Err c = settled_nothing _ _ _ _ _ _ (ap numbered c.in-Err.is) c.refuse.ensures
