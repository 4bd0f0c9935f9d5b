-- Laws of a part of a list that is stored piece by piece.
-- Assumes nothing.
use Rattle.std.proofs.Common.{◌≡◌, refl, sym, ap, ◌∙◌, List, [], ◌∷◌, ℕ, zero, suc, ◌+◌, ◌-◌, ◌≤◌, ◌<◌, arith, length, get_or, take, drop, set, length-drop, drop-cons, drop-drop, length-take-le, set-set, take-add}
use Rattle.std.proofs.Math.Seq.{sets, set_comm}
use Rattle.byte_copy.specs.CopiedLaws.{sets-append}

-- ---- a list stored over a front of it

set_before : (b u : List ℕ) (i j v : ℕ) → i < j → set (sets u j b) i v ≡ sets (set u i v) j b
set_before [] u i j v h = refl
set_before (x ∷ b) u i j v h =
    set_before b (set u j x) i (suc j) v (omega arith) ∙ ap (λ (w : List ℕ). sets w (suc j) b) (set_comm u j i x v (λ e. omega arith))

over-front : (y u : List ℕ) (j p n : ℕ) → p ≤ n → sets (sets u j (take p y)) j (take n y) ≡ sets u j (take n y)
over-front y u j zero n h = refl
over-front [] u j (suc p) n h = refl
over-front (x ∷ y) u j (suc p) zero h = absurd (omega arith)
over-front (x ∷ y) u j (suc p) (suc n) h =
    let e : set (sets (set u j x) (suc j) (take p y)) j x ≡ sets (set u j x) (suc j) (take p y) =
    set_before (take p y) (set u j x) j (suc j) x (omega arith) ∙ rw (set-set u j x x) in
    ap (λ (w : List ℕ). sets w (suc j) (take n y)) e ∙ over-front y (set u j x) (suc j) p n (omega arith)

-- ---- a part stored

module _ (s : List ℕ) (from : ℕ) (t : List ℕ) (at : ℕ) where
  -- t with the first i bytes stored
  abbrev pub put : ℕ → List ℕ
  put i = sets t at (take i (drop from s))

  -- and then the n after them
  pub put_more : {u : List ℕ} (i n : ℕ) → from + i ≤ length s → u ≡ put i → sets u (at + i) (take n (drop (from + i) s)) ≡ put (i + n)
  put_more i n h e =
      let l : length (take i (drop from s)) ≡ i = length-take-le i (drop from s) (omega (arith, length-drop from s)) in
      rw (e, take-add i n (drop from s), ← drop-drop i from s) (rw l at (sets-append (take i (drop from s)) (take n (drop i (drop from s))) t at))

  pub put_byte : {u : List ℕ} (i : ℕ) → from + i < length s → u ≡ put i → set u (at + i) (get_or s (from + i) 0) ≡ put (i + 1)
  put_byte i h e = rw (drop-cons s (from + i) 0 h) at (put_more i 1 (omega arith) e)

  -- after the first m of n bytes the last j, though some of them are stored already
  pub put_last : {u : List ℕ} (n j m : ℕ) → j ≤ n → n - j ≤ m → m ≤ n → from + n ≤ length s
      → u ≡ put m
      → sets u (at + (n - j)) (take j (drop (from + (n - j)) s)) ≡ put n
  put_last {u} n j m h k l w e =
      let i = n - j in
      let y : List ℕ = drop (from + i) s in
      let em : i + (m - i) ≡ m = omega arith in
      let en : i + j ≡ n = omega arith in
      let f : u ≡ sets (put i) (at + i) (take (m - i) y) = e ∙ rw em at (sym (put_more i (m - i) (omega arith) refl)) in
      ap (λ (v : List ℕ). sets v (at + i) (take j y)) f ∙ over-front y (put i) (at + i) (m - i) j (omega arith) ∙ rw en at (put_more i j (omega arith) refl)
