-- `refuse` meets its contract: the answer of a segment that is over when it is begun, or the
-- refusal's number.
use Rattle.std.proofs.Common.{ap, ◌∙◌}
use Rattle.wal_types.specs.Refusals.{number_of}
use Rattle.reporting.specs.Choices.{answer}
use Rattle.reporting.proofs.Refusing.{over-answer, begun-answer}
use Rattle.reporting.proofs.files.refuse.Goals as goal

pub returns-then-state : goal.returns-then-state
returns-then-state c =
    let e = c.begin-state.ensures in
    (over-answer c.begin-state.result _ (number_of c.args.why) e.0 c.if-state.true, e.1)

pub returns : goal.returns
returns c =
    let e = c.begin-state.ensures in
    (ap (λ n. answer n 0) c.number.ensures ∙ begun-answer c.begin-state.result _ (number_of c.args.why) e.0 c.if-state.false, e.1)
