-- Method, laws: sparse multiples of the polynomial, among them the two sums of `Fold`.
use Rattle.std.specs.Prelude.{◌≡◌, List, [], ◌∷◌}
use Rattle.std.proofs.Math.Path.{refl, sym, ap, ap₂}
use Rattle.std.proofs.Common.{◌∙◌, subst, add-zero, zero-lt-suc, div-lt_iff_lt-mul, arith}
use Prim.Native.Nat.{ℕ, zero, suc, ◌+◌, ◌*◌, ◌/◌, ◌%◌, ◌^◌, ◌<◌, ◌≤◌}
use Rattle.std.proofs.Math.Nat.{pow-suc}
use Rattle.std.proofs.Math.Arith.{lt-one}
use Rattle.std.specs.Int.Bits.{bit_xor}
use Rattle.std.proofs.lemmas.Nat.{xor_lt}
use Rattle.crc32c_format.specs.Crc.{bit_step, bit_steps}
use Rattle.crc32c_format.specs.Method.Fold.{Distances, onto290, onto130, xor_over}
use Rattle.crc32c_format.specs.Method.Xor.{digit, odd, xor_assoc, xor_four}
use Rattle.crc32c_format.specs.Method.Steps.{bit_steps_xor, bit_steps-add, bit_steps_zero, bit_steps-split}

-- ---- xor over a list

-- a fact of each number of a list
abbrev pub Each : (ℕ → Type 0) → List ℕ → Type 0
Each P [] = Unit {0}
Each P (d ∷ ds) = P d × Each P ds

pub xor_over_eq : {P : ℕ → Type 0} (f g : ℕ → ℕ) (ds : List ℕ) {a b : ℕ} → Each P ds → a ≡ b → ((d : ℕ) → P d → f d ≡ g d) → xor_over f a ds ≡ xor_over g b ds
unfolding xor_over
xor_over_eq f g [] e p h = p
xor_over_eq f g (d ∷ ds) e p h = xor_over_eq f g ds e.1 (ap₂ bit_xor p (h d e.0)) h

pub xor_over_zero : (f : ℕ → ℕ) (ds : List ℕ) {a : ℕ} → a ≡ 0 → ((d : ℕ) → f d ≡ 0) → xor_over f a ds ≡ 0
unfolding xor_over
xor_over_zero f [] p h = p
xor_over_zero f (d ∷ ds) p h = xor_over_zero f ds (ap₂ bit_xor p (h d)) h

pub xor_over_lt : {P : ℕ → Type 0} (f : ℕ → ℕ) (ds : List ℕ) {a : ℕ} → Each P ds → a < 256 → ((d : ℕ) → P d → f d < 256) → xor_over f a ds < 256
unfolding xor_over
xor_over_lt f [] e p h = p
xor_over_lt f (d ∷ ds) {a} e p h = xor_over_lt f ds e.1 (xor_lt 8 a (f d) p (h d e.0)) h

pub xor_over_onto : (f : ℕ → ℕ) (a b : ℕ) (ds : List ℕ) → xor_over f (bit_xor a b) ds ≡ bit_xor a (xor_over f b ds)
unfolding xor_over
xor_over_onto f a b [] = refl
xor_over_onto f a b (d ∷ ds) = ap (λ (x : ℕ). xor_over f x ds) (xor_assoc a b (f d)) ∙ xor_over_onto f a (bit_xor b (f d)) ds

pub xor_over_xor : (f g : ℕ → ℕ) (a b : ℕ) (ds : List ℕ) → xor_over (λ d. bit_xor (f d) (g d)) (bit_xor a b) ds ≡ bit_xor (xor_over f a ds) (xor_over g b ds)
unfolding xor_over
xor_over_xor f g a b [] = refl
xor_over_xor f g a b (d ∷ ds) =
    ap (λ (x : ℕ). xor_over (λ d. bit_xor (f d) (g d)) x ds) (xor_four a b (f d) (g d)) ∙ xor_over_xor f g (bit_xor a (f d)) (bit_xor b (g d)) ds

pub xor_over-steps : (n : ℕ) (f : ℕ → ℕ) (a : ℕ) (ds : List ℕ) → bit_steps n (xor_over f a ds) ≡ xor_over (λ d. bit_steps n (f d)) (bit_steps n a) ds
unfolding xor_over
xor_over-steps n f a [] = refl
xor_over-steps n f a (d ∷ ds) =
    xor_over-steps n f (bit_xor a (f d)) ds ∙ ap (λ (x : ℕ). xor_over (λ d. bit_steps n (f d)) x ds) (bit_steps_xor n a (f d))

-- ---- the multiples

-- all distances but 0
abbrev pub distances : Distances → List ℕ
distances D = D.far ∷ D.next ∷ D.others

-- g after n bit steps, xored with g after 8 * d + n for each distance d: the sum of powers, times g
unfoldable pub sparse : Distances → ℕ → ℕ → ℕ
sparse D n g = xor_over (λ d. bit_steps (8 * d + n) g) (bit_steps n g) (distances D)

-- what a fold needs of its distances: the polynomial divides the sum, none is within a register's
-- four bytes, and the greatest two are named as such
pub record Multiple (D : Distances) : Type 0 where
  pub all : Each (λ d. (4 ≤ d) × (d ≤ D.far)) (distances D)
  pub less : D.next < D.far
  pub near : Each (λ d. d ≤ D.next) D.others
  pub divides : sparse D 0 1 ≡ 0

divides290 : sparse onto290 0 1 ≡ 0
unfolding sparse xor_over bit_steps bit_step
divides290 = refl

divides130 : sparse onto130 0 1 ≡ 0
unfolding sparse xor_over bit_steps bit_step
divides130 = refl

pub multiple290 : Multiple onto290
multiple290 = record { all = omega arith; less = omega arith; near = omega arith; divides = divides290 }

pub multiple130 : Multiple onto130
multiple130 = record { all = omega arith; less = omega arith; near = omega arith; divides = divides130 }

one_bit : (m n g : ℕ) → m ≡ suc n → bit_steps m g ≡ bit_xor (bit_steps m (g % 2)) (bit_steps n (g / 2))
one_bit m n g e = subst (λ (k : ℕ). bit_steps k g ≡ bit_xor (bit_steps k (g % 2)) (bit_steps n (g / 2))) {x = 1 + n} {y = m} (omega arith) (bit_steps-split 1 n g)

module _ (D : Distances) (M : Multiple D) where
  sparse-after : (n g : ℕ) → sparse D n g ≡ bit_steps n (sparse D 0 g)
  unfolding sparse bit_steps
  sparse-after n g =
      sym (
      xor_over-steps n (λ d. bit_steps (8 * d + 0) g) g (distances D)
      ∙ xor_over_eq (λ d. bit_steps n (bit_steps (8 * d + 0) g)) (λ d. bit_steps (8 * d + n) g) (distances D) M.all refl
      (λ d p. rw (add-zero (8 * d)) (sym (bit_steps-add (8 * d) n g))))

  sparse_0 : (n : ℕ) → sparse D n 0 ≡ 0
  unfolding sparse
  sparse_0 n = xor_over_zero (λ d. bit_steps (8 * d + n) 0) (distances D) (bit_steps_zero n) (λ d. bit_steps_zero (8 * d + n))

  sparse-digit : (n x : ℕ) → x < 2 → sparse D n x ≡ 0
  sparse-digit n = digit (λ (x : ℕ). sparse D n x ≡ 0) (sparse_0 n) (sparse-after n 1 ∙ ap (bit_steps n) M.divides ∙ bit_steps_zero n)

  -- for a number of n bits nothing is left after n steps, since the polynomial divides the sum
  pub sparse_zero : (n g : ℕ) → g < 2 ^ n → sparse D n g ≡ 0
  unfolding sparse
  sparse_zero zero g h = ap (sparse D 0) (lt-one h) ∙ sparse_0 0
  sparse_zero (suc n) g h =
      let q : g / 2 < 2 ^ n = (div-lt_iff_lt-mul (zero-lt-suc 1)).1 (rw pow-suc at h) in
      let low : ℕ → ℕ = λ d. bit_steps (8 * d + suc n) (g % 2) in
      let high : ℕ → ℕ = λ d. bit_steps (8 * d + n) (g / 2) in
      xor_over_eq (λ d. bit_steps (8 * d + suc n) g) (λ d. bit_xor (low d) (high d)) (distances D) M.all
      (one_bit (suc n) n g refl) (λ d p. one_bit (8 * d + suc n) (8 * d + n) g (omega arith))
      ∙ xor_over_xor low high (bit_steps (suc n) (g % 2)) (bit_steps n (g / 2)) (distances D)
      ∙ ap₂ bit_xor (sparse-digit (suc n) (g % 2) (odd g)) (sparse_zero n (g / 2) q)
