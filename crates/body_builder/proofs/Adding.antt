-- The state of a body.
use Rattle.std.specs.Prelude.{◌≡◌, refl, Bool, true, false, List, ℕ, ◌≤◌, ltb, length}
use Rattle.std.proofs.Common.{arith, ltb-true, ltb-false}
use Rattle.body_format.specs.Building.{bad_state}
use Rattle.body_format.proofs.Laws.Additions.{state-past}

-- a good state has its bytes in the buffer
pub state_within : (b : List ℕ) (t u : ℕ) → bad_state b t u ≡ false → u ≤ length b
state_within b t u h = go (ltb (length b) u) refl
  where
    go : (p : Bool) → ltb (length b) u ≡ p → u ≤ length b
    go true e =
        let past = ltb-true (length b) u e in
        let bad : bad_state b t u ≡ true = state-past b t u (omega arith) past in
        let z : ◌≡◌ {A = ℕ} 0 1 = cc in
        absurd (omega arith)
    go false e = ltb-false (length b) u e
