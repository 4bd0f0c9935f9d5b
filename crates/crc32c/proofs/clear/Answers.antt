-- `clear` meets its contract: zeros are stored, and the window is as it was.
use Rattle.std.proofs.Common.{◌≡◌, ℕ, ◌-◌, ◌≤◌, ◌<◌, List, ◌++◌, ap, ◌∙◌, arith, length, get_or, take, drop, replicate, get_or-take, length-take-le, length-drop}
use Rattle.std.proofs.Math.ListN.{get_or-append}
use Rattle.std.proofs.lemmas.List.{get_or-replicate, get_or-append_right}
use Rattle.crc32c.proofs.clear.Goals as goal

window : (y z : List ℕ) (k : ℕ) → 290 ≤ length y → k < 290 → get_or (take 290 y ++ z) k 0 ≡ get_or y k 0
window y z k h l =
    get_or-append (take 290 y) z 0 k (omega (arith, length-take-le 290 y h)) ∙ get_or-take 290 y k 0 l

zeros : (y o z : List ℕ) (k : ℕ) → o ≡ replicate 136 0 → 290 ≤ length y → 290 ≤ k → k < 426 → get_or (take 290 y ++ (o ++ z)) k 0 ≡ 0
zeros y o z k e h g l =
    ap (λ (p : List ℕ). get_or (take 290 y ++ (p ++ z)) k 0) e
    ∙ get_or-append_right (take 290 y) (replicate 136 0 ++ z) 290 k 0 (length-take-le 290 y h) g
    ∙ get_or-append (replicate 136 0) z 0 (k - 290) (omega arith)
    ∙ get_or-replicate 136 (k - 290) 0 0 (omega arith)

pub returns : goal.returns
returns c =
    let y = c.args.y.now in
    let n : length (take 136 (drop 290 y)) ≡ 136 = length-take-le 136 (drop 290 y) (omega (arith, length-drop 290 y)) in
    let e : c.fill.new.self ≡ replicate 136 0 = c.fill.ensures.after (λ x p. p) ∙ ap (λ (m : ℕ). replicate m 0) n in
    record {
      before = λ k l. window y _ k (omega arith) l;
      zero = λ k g l. zeros y c.fill.new.self _ k e (omega arith) g l;
    }
