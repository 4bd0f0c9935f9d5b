-- Laws of signed numbers in code: a number is m or −1 − m, by its sign, m being its magnitude; and
-- what −1 − x is.
-- Assumes nothing.
use Rattle.std.specs.Prelude.{ℕ, zero, suc, true, false, ◌≡◌, refl, T, ℤ, pos, negsuc, ◌-ℤ◌}
use Rattle.std.proofs.Common.{sym, ap, ◌∙◌, subst, arith, le-ltb, to_z-of_z, SFits, to_z, of_z}
use Rattle.std.proofs.Math.Dec.{leb-zero}
use Rattle.std.specs.Int.Signed.{mag, le_z}
use Rattle.std.specs.Int.{w64}

-- −1 − n
pub minus_pos : (n : ℕ) → negsuc 0 -ℤ pos n ≡ negsuc n
minus_pos zero = refl
minus_pos (suc n) = ap negsuc (omega arith)

-- n, or −(n + 1), by the sign
is_pos : (z : ℤ) → le_z (pos 0) z ≡ true → z ≡ pos (mag z)
is_pos (pos n) e = refl
is_pos (negsuc n) e = absurd (subst T (sym e) tt)

is_neg : (z : ℤ) → le_z (pos 0) z ≡ false → z ≡ negsuc (mag z)
is_neg (pos n) e = absurd (subst T (sym (leb-zero n) ∙ e) tt)
is_neg (negsuc n) e = refl

-- −1 − (−(n + 1))
minus_neg : (z : ℤ) → le_z (pos 0) z ≡ false → negsuc 0 -ℤ z ≡ pos (mag z)
minus_neg (pos n) e = absurd (subst T (sym (leb-zero n) ∙ e) tt)
minus_neg (negsuc n) e = rw (le-ltb (suc n) 1 (omega arith)) (ap pos (omega arith))

-- the same where the code has them: a signed local is its bits
module _ (x : ℤ) (f : SFits w64 x) where
  module _ (e : le_z (pos 0) (to_z w64 (of_z w64 x)) ≡ true) where
    pub x_pos : x ≡ pos (mag x)
    x_pos = is_pos x (ap (le_z (pos 0)) (sym (to_z-of_z f)) ∙ e)

    pub read_pos : to_z w64 (of_z w64 x) ≡ pos (mag x)
    read_pos = to_z-of_z f ∙ x_pos

  module _ (e : le_z (pos 0) (to_z w64 (of_z w64 x)) ≡ false) where
    pub x_neg : x ≡ negsuc (mag x)
    x_neg = is_neg x (ap (le_z (pos 0)) (sym (to_z-of_z f)) ∙ e)

    pub read_neg : negsuc 0 -ℤ to_z w64 (of_z w64 x) ≡ pos (mag x)
    read_neg = ap (λ (z : ℤ). negsuc 0 -ℤ z) (to_z-of_z f) ∙ minus_neg x (ap (le_z (pos 0)) (sym (to_z-of_z f)) ∙ e)

  pub mag-fits : SFits w64 (pos (mag x))
  mag-fits = record { sfits = f.sfits }

  pub bits_pos : to_z w64 (of_z w64 (pos (mag x))) ≡ pos (mag x)
  bits_pos = to_z-of_z mag-fits
