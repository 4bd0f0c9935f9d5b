-- Method, laws: lists that are filled place by place.
use Rattle.std.specs.Prelude.{◌≡◌, List, ◌⊎◌, ℕ, zero, suc, ◌+◌, ◌<◌, ◌≤◌, length, get_or, set}
use Rattle.std.proofs.Common.{◌∙◌, subst, inl, inr, ⊎_elim, zero-le, suc-le-suc, zero-lt-suc, arith, get_or-set_same, get_or-set_other}

pub lt_or_ge : (a b : ℕ) → (a < b) ⊎ (b ≤ a)
lt_or_ge a zero = inr zero-le
lt_or_ge zero (suc b) = inl (zero-lt-suc b)
lt_or_ge (suc a) (suc b) = ⊎_elim (λ p. inl (suc-le-suc p)) (λ q. inr (suc-le-suc q)) (lt_or_ge a b)

-- after f j is stored at place j, the places below j + 1 hold what f gives
pub set_more : (f : ℕ → ℕ) (r : List ℕ) (j : ℕ) {v : ℕ} → j < length r → v ≡ f j → ((k : ℕ) → k < j → get_or r k 0 ≡ f k)
    → (k : ℕ) → k < j + 1 → get_or (set r j v) k 0 ≡ f k
set_more f r j {v} h e g k l =
    ⊎_elim (λ (a : k < j). get_or-set_other r j k v 0 (λ q. omega arith) ∙ g k a)
    (λ (a : j ≤ k). subst (λ (i : ℕ). get_or (set r j v) i 0 ≡ f i) {x = j} {y = k} (omega arith) (get_or-set_same r j v 0 h ∙ e))
    (lt_or_ge k j)
