use Rattle.std.proofs.Common.{◌≡◌, ℕ, ◌≤◌, ◌+◌, refl, ap, ◌∙◌, arith, get_or, get_or-set_other}
use Rattle.crc32c_format.specs.Method.Lists.{set_more}
use Rattle.crc32c.proofs.slide.Goals as goal

pub loop-i-init : goal.loop-i-init
loop-i-init c = record { moved = λ k h. absurd (omega arith); others = λ k h. refl }

pub loop-i-preserved : goal.loop-i-preserved
loop-i-preserved c =
    let a = c.args in
    let y = c.loop-i.y in
    let i = c.loop-i.i in
    let stays : (k : ℕ) → i ≤ k → get_or y k 0 ≡ get_or a.y.now k 0 = c.loop-i.invariant.others in
    let from : get_or y (i + a.n) 0 ≡ get_or a.y.now (a.n + i) 0 = stays (i + a.n) (omega arith) ∙ ap (λ (k : ℕ). get_or a.y.now k 0) (omega arith) in
    record {
      moved = set_more (λ (k : ℕ). get_or a.y.now (a.n + k) 0) y i (omega arith) from c.loop-i.invariant.moved;
      others = λ k h. get_or-set_other y i k _ 0 (λ e. omega arith) ∙ stays k (omega arith);
    }

pub returns : goal.returns
returns c = record { byte = λ k h. c.loop-i.invariant.moved k (omega arith) }
