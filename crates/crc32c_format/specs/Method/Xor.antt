-- Method, laws: `bit_xor` is associative, which `lib.Bits` does not have, and what follows from it.
use Rattle.std.specs.Prelude.{◌≡◌, refl, ℕ, zero, suc, ◌+◌, ◌*◌, ◌/◌, ◌%◌, ◌<◌}
use Rattle.std.proofs.Common.{sym, ap, ap₂, ◌∙◌, add-zero, mod-lt, zero-lt-suc, arith, pow_pos}
use Rattle.std.proofs.Math.Arith.{bin_ind}
use Rattle.std.specs.Int.Bits.{bit_xor, differ, xor_step, xor_self, xor_zero_r}
use Rattle.std.proofs.lemmas.Nat.{xor_shr, xor_mod, xor_comm, xor_block}

-- a fact of a binary digit, from its two cases
pub digit : (P : ℕ → Type 0) → P 0 → P 1 → (x : ℕ) → x < 2 → P x
digit P p q zero h = p
digit P p q (suc zero) h = q
digit P p q (suc (suc x)) h = absurd (omega arith)

pub odd : (a : ℕ) → a % 2 < 2
odd a = mod-lt a (zero-lt-suc 1)

digits_assoc : (x y z : ℕ) → x < 2 → y < 2 → z < 2 → differ (bit_xor x y) z ≡ differ x (bit_xor y z)
digits_assoc x y z hx hy hz =
    digit (λ x. differ (bit_xor x y) z ≡ differ x (bit_xor y z))
    (digit (λ y. differ y z ≡ bit_xor y z) (digit (λ z. z ≡ z) refl refl z hz) (digit (λ z. differ 1 z ≡ bit_xor 1 z) refl refl z hz) y hy)
    (digit (λ y. differ (bit_xor 1 y) z ≡ differ 1 (bit_xor y z)) (digit (λ z. differ 1 z ≡ differ 1 z) refl refl z hz) (digit (λ z. differ 0 z ≡ differ 1 (bit_xor 1 z)) refl refl z hz) y hy)
    x hx

pub xor_assoc : (a b c : ℕ) → bit_xor (bit_xor a b) c ≡ bit_xor a (bit_xor b c)
xor_assoc =
    bin_ind (λ (n : ℕ). (b c : ℕ) → bit_xor (bit_xor n b) c ≡ bit_xor n (bit_xor b c)) (λ b c. refl)
    (λ n ih b c.
    xor_step (bit_xor n b) c
    ∙ ap₂ (λ (q r : ℕ). bit_xor q (c / 2) * 2 + differ r (c % 2)) (xor_shr n b 1) (xor_mod n b 1)
    ∙ ap₂ (λ (q r : ℕ). q * 2 + r) (ih (b / 2) (c / 2)) (digits_assoc (n % 2) (b % 2) (c % 2) (odd n) (odd b) (odd c))
    ∙ sym (ap₂ (λ (q r : ℕ). bit_xor (n / 2) q * 2 + differ (n % 2) r) (xor_shr b c 1) (xor_mod b c 1))
    ∙ sym (xor_step n (bit_xor b c)))

-- two pairs, exchanged in the middle
pub xor_four : (a b c d : ℕ) → bit_xor (bit_xor a b) (bit_xor c d) ≡ bit_xor (bit_xor a c) (bit_xor b d)
xor_four a b c d =
    xor_assoc a b (bit_xor c d)
    ∙ ap (bit_xor a) (sym (xor_assoc b c d) ∙ ap (λ (x : ℕ). bit_xor x d) (xor_comm b c) ∙ xor_assoc c b d)
    ∙ sym (xor_assoc a c (bit_xor b d))

pub xor_twice : (a b : ℕ) → bit_xor a (bit_xor a b) ≡ b
xor_twice a b = sym (xor_assoc a a b) ∙ ap (λ (x : ℕ). bit_xor x b) (xor_self a)

pub xor_back : (a b : ℕ) → bit_xor (bit_xor a b) b ≡ a
xor_back a b = xor_assoc a b b ∙ ap (bit_xor a) (xor_self b) ∙ xor_zero_r a

pub xor_cancel : (a b : ℕ) → bit_xor a b ≡ 0 → a ≡ b
xor_cancel a b h = sym (xor_back a b) ∙ ap (λ (x : ℕ). bit_xor x b) h

-- both shifted by eight bits
pub xor_mul : (a b : ℕ) → bit_xor a b * 256 ≡ bit_xor (a * 256) (b * 256)
xor_mul a b = sym (ap₂ bit_xor (sym (add-zero (a * 256))) (sym (add-zero (b * 256))) ∙ xor_block 8 a b 0 0 (pow_pos 8) (pow_pos 8) ∙ add-zero (bit_xor a b * 256))
