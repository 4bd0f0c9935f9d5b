-- The answer to a segment that adds nothing, by whether it is over when it is begun; and a file's that
-- adds nothing.
-- Assumes nothing.
use Rattle.std.proofs.Common.{◌≡◌, sym, ap, subst, Bool, true, false, cond, List, ℕ}
use Rattle.report_format.specs.declared.PageReport.{PageReport}
use Rattle.report_format.specs.declared.Reported.{Reported}
use Rattle.report_format.specs.Paging.{beginner}
use Rattle.reporting.specs.Taken.{Taken, Nothing}
use Rattle.reporting.specs.Choices.{answer, answered, unadded, Settled}

pub over-answer : (x y : PageReport) (n : ℕ) → x ≡ y → x.over ≡ true → answer x.number x.place ≡ answered y n
over-answer x y n e h =
    subst (λ (z : PageReport). answer x.number x.place ≡ answered z n) e
    (ap (λ (t : Bool). cond t (answer x.number x.place) (answer n 0)) (sym h))

pub begun-answer : (x y : PageReport) (n : ℕ) → x ≡ y → x.over ≡ false → answer n 0 ≡ answered y n
begun-answer x y n e h =
    subst (λ (z : PageReport). answer n 0 ≡ answered z n) e
    (ap (λ (t : Bool). cond t (answer x.number x.place) (answer n 0)) (sym h))

pub settled_nothing : (x : Taken) (n : ℕ) (t u : List ℕ) (r : Reported) (w : List ℕ) → x ≡ Nothing n
    → (r ≡ unadded n t) × (w ≡ (beginner t).report) → Settled x t u r w
settled_nothing x n t u r w e h = subst (λ (z : Taken). Settled z t u r w) (sym e) h
