-- Method, definition (contracts of private functions cite it): folding a message. The polynomial
-- divides some sums of few powers, 1 + .. + x^(8 * d) + .. + x^(8 * far), so a byte of the message
-- can be replaced by a few later ones: one is far bytes later, and for each of the other distances
-- d one is far - d bytes later. y stores the bytes that were replaced, each far places after its
-- own. What they xor into the bytes to come depends on the last far of them alone, the window.
use Rattle.std.specs.Prelude.{◌≡◌, List, [], ◌∷◌, ℕ, ◌+◌, ◌≤◌, ◌<◌, length, get_or}
use Rattle.std.specs.Int.Bits.{bit_xor}

-- the distances, in bytes, that are not 0: the greatest, the next, and the others
pub record Distances : Type 0 where
  pub far : ℕ
  pub next : ℕ
  pub others : List ℕ

-- 1 + x^(8 * 32) + x^(8 * 107) + x^(8 * 113) + x^(8 * 136) + x^(8 * 290): far enough apart that
-- many bytes are folded at once
abbrev pub onto290 : Distances
onto290 = record { far = 290; next = 136; others = 113 ∷ 107 ∷ 32 ∷ [] }

-- 1 + x^(8 * 25) + x^(8 * 32) + x^(8 * 33) + x^(8 * 60) + x^(8 * 63) + x^(8 * 64) + x^(8 * 130):
-- leaves fewer bytes
abbrev pub onto130 : Distances
onto130 = record { far = 130; next = 64; others = 63 ∷ 60 ∷ 33 ∷ 32 ∷ 25 ∷ [] }

-- a, xored with f of each number of a list
unfoldable pub xor_over : (ℕ → ℕ) → ℕ → List ℕ → ℕ
xor_over f a [] = a
xor_over f a (d ∷ ds) = xor_over f (bit_xor a (f d)) ds

-- what earlier bytes xor into the byte at i
unfoldable pub taps : Distances → List ℕ → ℕ → ℕ
taps D y i = bit_xor (xor_over (λ d. get_or y (i + d) 0) (get_or y (i + D.next) 0) D.others) (get_or y i 0)

-- z is y after the first n bytes of m
pub record Folded (D : Distances) (m y z : List ℕ) (n : ℕ) : Type 0 where
  pub same : length z ≡ length y
  pub byte : (i : ℕ) → i < n → get_or z (i + D.far) 0 ≡ bit_xor (get_or m i 0) (taps D z i)
  pub before : (k : ℕ) → k < D.far → get_or z k 0 ≡ get_or y k 0
  pub after : (k : ℕ) → n + D.far ≤ k → get_or z k 0 ≡ get_or y k 0

-- w begins with the window after n bytes more
pub record Slid (D : Distances) (z w : List ℕ) (n : ℕ) : Type 0 where
  pub byte : (k : ℕ) → k < D.far → get_or w k 0 ≡ get_or z (n + k) 0

-- y is the window of w, and after it zeros, as far as `Rest` reads
pub record Cleared (D : Distances) (w y : List ℕ) : Type 0 where
  pub before : (k : ℕ) → k < D.far → get_or y k 0 ≡ get_or w k 0
  pub zero : (k : ℕ) → D.far ≤ k → k < D.far + D.next → get_or y k 0 ≡ 0

-- r is the last bytes, with what the window xors into them
pub record Rest (D : Distances) (m y r : List ℕ) : Type 0 where
  pub len : length r ≡ D.far
  pub byte : (j : ℕ) → j < D.far → get_or r j 0 ≡ bit_xor (get_or m j 0) (taps D y j)
