-- Method, laws: a message folds to its last bytes, as many as the multiple's greatest distance.
use Rattle.std.specs.Prelude.{◌≡◌, List, [], ◌∷◌, ◌++◌, length, take, drop, replicate}
use Rattle.std.proofs.Math.Path.{refl, sym, ap, ap₂}
use Rattle.std.proofs.Common.{◌∙◌, subst, add_comm, mul-one, mul_assoc, lt_of_lt_of_le, arith, ⊎_elim, pow-add, pow_mono, take-append-drop, length-take-le, get_or-take, get_or-drop, get_or-append-add}
use Prim.Native.Nat.{ℕ, zero, suc, ◌+◌, ◌-◌, ◌*◌, ◌^◌, ◌<◌, ◌≤◌}
use Rattle.std.specs.Int.Bits.{bit_xor, xor_zero_r, xor_comm}
use Rattle.std.proofs.Math.ListN.{get_or, get_or-append, get_or-eq_default}
use Rattle.std.proofs.lemmas.List.{length-replicate, get_or-replicate}
use Rattle.crc32c_format.specs.Crc.{bit_steps, register}
use Rattle.crc32c_format.specs.Bytes.{little_endian}
use Rattle.crc32c_format.specs.Method.Fold.{Distances, xor_over, taps}
use Rattle.crc32c_format.specs.Method.Xor.{xor_four, xor_assoc, xor_mul, xor_twice, xor_back, xor_cancel}
use Rattle.crc32c_format.specs.Method.Steps.{bit_steps_xor, bit_steps-add, bit_steps_shift, register-little_endian}
use Rattle.crc32c_format.specs.Method.Sparse.{xor_over_eq, xor_over_zero, xor_over_onto, xor_over_xor, xor_over-steps, distances, sparse, Multiple, sparse_zero}
use Rattle.crc32c_format.specs.Method.Parts.{little_endian-append, little_endian_lt}
use Rattle.crc32c_format.specs.Method.Lists.{lt_or_ge}

-- ---- lists of bytes as numbers

-- the steps of y, split at its byte d
part : (d n : ℕ) (y : List ℕ) → d ≤ length y
    → bit_steps (8 * d + n) (little_endian y) ≡ bit_xor (bit_steps (8 * d + n) (little_endian (take d y))) (bit_steps n (little_endian (drop d y)))
part d n y h =
    ap (λ (l : List ℕ). bit_steps (8 * d + n) (little_endian l)) (sym (take-append-drop d y))
    ∙ ap (bit_steps (8 * d + n)) (little_endian-append (take d y) (drop d y) ∙ ap (λ (k : ℕ). bit_xor (little_endian (take d y)) (little_endian (drop d y) * 2 ^ (8 * k))) (length-take-le d y h))
    ∙ bit_steps_xor (8 * d + n) (little_endian (take d y)) (little_endian (drop d y) * 2 ^ (8 * d))
    ∙ ap (bit_xor (bit_steps (8 * d + n) (little_endian (take d y))))
    (bit_steps-add (8 * d) n (little_endian (drop d y) * 2 ^ (8 * d)) ∙ ap (bit_steps n) (bit_steps_shift (8 * d) (little_endian (drop d y))))

-- the xor of two lists, place by place; the shorter is continued with zeros
xors : List ℕ → List ℕ → List ℕ
xors [] ys = ys
xors (x ∷ xs) [] = x ∷ xs
xors (x ∷ xs) (y ∷ ys) = bit_xor x y ∷ xors xs ys

get_or-xors : (xs ys : List ℕ) (i : ℕ) → get_or (xors xs ys) i 0 ≡ bit_xor (get_or xs i 0) (get_or ys i 0)
unfolding xors
get_or-xors [] ys i = refl
get_or-xors (x ∷ xs) [] i = sym (xor_zero_r (get_or (x ∷ xs) i 0))
get_or-xors (x ∷ xs) (y ∷ ys) zero = refl
get_or-xors (x ∷ xs) (y ∷ ys) (suc i) = get_or-xors xs ys i

little_endian-xors : (xs ys : List ℕ) → little_endian (xors xs ys) ≡ bit_xor (little_endian xs) (little_endian ys)
unfolding xors little_endian
little_endian-xors [] ys = refl
little_endian-xors (x ∷ xs) [] = sym (xor_zero_r (little_endian (x ∷ xs)))
little_endian-xors (x ∷ xs) (y ∷ ys) =
    ap (λ (k : ℕ). bit_xor (bit_xor x y) (k * 256)) (little_endian-xors xs ys)
    ∙ ap (bit_xor (bit_xor x y)) (xor_mul (little_endian xs) (little_endian ys))
    ∙ xor_four x y (little_endian xs * 256) (little_endian ys * 256)

-- a list's number depends on its elements alone, and zeros at its end do not count
pub little_endian_ext : (xs ys : List ℕ) → ((i : ℕ) → get_or xs i 0 ≡ get_or ys i 0) → little_endian xs ≡ little_endian ys
unfolding little_endian
little_endian_ext [] [] h = refl
little_endian_ext [] (y ∷ ys) h = ap₂ (λ (a b : ℕ). bit_xor a (b * 256)) (h 0) (little_endian_ext [] ys (λ i. h (suc i)))
little_endian_ext (x ∷ xs) [] h = ap₂ (λ (a b : ℕ). bit_xor a (b * 256)) (h 0) (little_endian_ext xs [] (λ i. h (suc i)))
little_endian_ext (x ∷ xs) (y ∷ ys) h = ap₂ (λ (a b : ℕ). bit_xor a (b * 256)) (h 0) (little_endian_ext xs ys (λ i. h (suc i)))

little_endian-zeros : (n : ℕ) (r : List ℕ) → little_endian (replicate n 0 ++ r) ≡ little_endian r * 2 ^ (8 * n)
unfolding little_endian
little_endian-zeros zero r = sym (mul-one (little_endian r))
little_endian-zeros (suc n) r =
    ap (λ (k : ℕ). k * 256) (little_endian-zeros n r)
    ∙ mul_assoc (little_endian r) (2 ^ (8 * n)) 256
    ∙ ap (λ (k : ℕ). little_endian r * k) (sym (pow-add 2 (8 * n) 8) ∙ ap (λ (k : ℕ). 2 ^ k) {x = 8 * n + 8} {y = 8 * suc n} (omega arith))

-- ---- the fold

-- the number of a list that is zero after its first n bytes
small : (n : ℕ) (y : List ℕ) → n ≤ length y → ((k : ℕ) → get_or y k 0 < 256) → ((k : ℕ) → n ≤ k → get_or y k 0 ≡ 0) → little_endian y < 2 ^ (8 * n)
small n y ly bytes zeros =
    let t = take n y in
    let lt : length t ≡ n = length-take-le n y ly in
    let past : (i : ℕ) → n ≤ i → get_or t i 0 ≡ 0 = λ i g. get_or-eq_default t 0 {n = i} (omega arith) in
    let same : (i : ℕ) → get_or y i 0 ≡ get_or t i 0 =
    λ i. ⊎_elim (λ (g : i < n). sym (get_or-take n y i 0 g)) (λ (g : n ≤ i). zeros i g ∙ sym (past i g)) (lt_or_ge i n) in
    subst (λ (k : ℕ). k < 2 ^ (8 * n)) (sym (little_endian_ext y t same)) (little_endian_lt n y bytes)

-- l, xored with the part of y from each distance on: as a number, and as a list
overlay : List ℕ → List ℕ → List ℕ → ℕ
overlay y l ds = xor_over (λ d. little_endian (drop d y)) (little_endian l) ds

overlaid : List ℕ → List ℕ → List ℕ → List ℕ
overlaid y l [] = l
overlaid y l (d ∷ ds) = overlaid y (xors l (drop d y)) ds

little_endian-overlaid : (y l ds : List ℕ) → little_endian (overlaid y l ds) ≡ overlay y l ds
unfolding overlaid overlay xor_over
little_endian-overlaid y l [] = refl
little_endian-overlaid y l (d ∷ ds) =
    little_endian-overlaid y (xors l (drop d y)) ds ∙ ap (λ (x : ℕ). xor_over (λ d. little_endian (drop d y)) x ds) (little_endian-xors l (drop d y))

get_or-view : (d : ℕ) (y : List ℕ) (i : ℕ) → get_or (drop d y) i 0 ≡ get_or y (i + d) 0
get_or-view d y i = get_or-drop d y i 0 ∙ ap (λ (k : ℕ). get_or y k 0) (add_comm d i)

get_or-overlaid : (y l ds : List ℕ) (i : ℕ) → get_or (overlaid y l ds) i 0 ≡ xor_over (λ d. get_or y (i + d) 0) (get_or l i 0) ds
unfolding overlaid xor_over
get_or-overlaid y l [] i = refl
get_or-overlaid y l (d ∷ ds) i =
    get_or-overlaid y (xors l (drop d y)) ds i
    ∙ ap (λ (x : ℕ). xor_over (λ d. get_or y (i + d) 0) x ds) (get_or-xors l (drop d y) i ∙ ap (bit_xor (get_or l i 0)) (get_or-view d y i))

-- the byte at the greatest distance, and the others are the taps
over-taps : (D : Distances) (y : List ℕ) (i : ℕ) → xor_over (λ d. get_or y (i + d) 0) (get_or y i 0) (distances D) ≡ bit_xor (get_or y (i + D.far) 0) (taps D y i)
unfolding taps xor_over
over-taps D y i =
    let f : ℕ → ℕ = λ d. get_or y (i + d) 0 in
    ap (λ (x : ℕ). xor_over f x D.others) (xor_assoc (get_or y i 0) (f D.far) (f D.next))
    ∙ xor_over_onto f (get_or y i 0) (bit_xor (f D.far) (f D.next)) D.others
    ∙ ap (bit_xor (get_or y i 0)) (xor_over_onto f (f D.far) (f D.next) D.others)
    ∙ xor_comm (get_or y i 0) (bit_xor (f D.far) (xor_over f (f D.next) D.others))
    ∙ xor_assoc (f D.far) (xor_over f (f D.next) D.others) (get_or y i 0)

module _ (D : Distances) (m y r : List ℕ) (n : ℕ) (lm : length m ≡ n + D.far) (lr : length r ≡ D.far)
    (byte : (i : ℕ) → i < n → get_or y (i + D.far) 0 ≡ bit_xor (get_or m i 0) (taps D y i))
    (zeros : (k : ℕ) → n + D.far ≤ k → get_or y k 0 ≡ 0)
    (rest : (j : ℕ) → j < D.far → get_or r j 0 ≡ bit_xor (get_or m (n + j) 0) (taps D y (n + j))) where
  abbrev place : ℕ → Type 0
  place i = get_or m i 0 ≡ bit_xor (bit_xor (get_or y (i + D.far) 0) (taps D y i)) (get_or (replicate n 0 ++ r) i 0)

  early : (i : ℕ) → i < n → place i
  early i h =
      sym (
      ap₂ (λ (a b : ℕ). bit_xor (bit_xor a (taps D y i)) b) (byte i h) (get_or-append (replicate n 0) r 0 i (rw length-replicate h) ∙ get_or-replicate n i 0 0 h)
      ∙ xor_zero_r _
      ∙ xor_back (get_or m i 0) (taps D y i))

  no_taps : (j : ℕ) → D.far ≤ j → taps D y (n + j) ≡ 0
  unfolding taps
  no_taps j h =
      ap₂ bit_xor (xor_over_zero (λ d. get_or y (n + j + d) 0) D.others (zeros (n + j + D.next) (omega arith)) (λ d. zeros (n + j + d) (omega arith))) (zeros (n + j) (omega arith))

  late : (j : ℕ) → place (n + j)
  late j =
      let pad : get_or (replicate n 0 ++ r) (n + j) 0 ≡ get_or r j 0 =
      ap (λ (k : ℕ). get_or (replicate n 0 ++ r) (k + j) 0) (sym (length-replicate n 0)) ∙ get_or-append-add (replicate n 0) r j 0 in
      let gone : get_or y (n + j + D.far) 0 ≡ 0 = zeros (n + j + D.far) (omega arith) in
      sym (
      ap₂ (λ (a b : ℕ). bit_xor (bit_xor a (taps D y (n + j))) b) gone pad
      ∙ ⊎_elim
      (λ (h : j < D.far). ap (bit_xor (taps D y (n + j))) (rest j h ∙ xor_comm (get_or m (n + j) 0) (taps D y (n + j))) ∙ xor_twice (taps D y (n + j)) (get_or m (n + j) 0))
      (λ (h : D.far ≤ j). ap₂ bit_xor (no_taps j h) (get_or-eq_default r 0 {n = j} (omega arith)) ∙ sym (get_or-eq_default m 0 {n = n + j} (omega arith)))
      (lt_or_ge j D.far))

  message : little_endian m ≡ bit_xor (overlay y y (distances D)) (little_endian r * 2 ^ (8 * n))
  message =
      let over = overlaid y y (distances D) in
      let pad = replicate n 0 ++ r in
      little_endian_ext m (xors over pad) (λ i.
      ⊎_elim (λ (h : i < n). early i h) (λ (h : n ≤ i). subst place {x = n + (i - n)} {y = i} (omega arith) (late (i - n))) (lt_or_ge i n)
      ∙ sym (get_or-xors over pad i ∙ ap (λ (k : ℕ). bit_xor k (get_or pad i 0)) (get_or-overlaid y y (distances D) i ∙ over-taps D y i)))
      ∙ little_endian-xors over pad
      ∙ ap₂ bit_xor (little_endian-overlaid y y (distances D)) (little_endian-zeros n r)

module _ (D : Distances) (M : Multiple D) where
  -- a list y whose number has n bits, and whose first bytes, up to each distance, have the number c
  fold-steps : (n c : ℕ) (y : List ℕ) → D.far ≤ length y → little_endian y < 2 ^ n → c < 2 ^ n
      → ((d : ℕ) → 4 ≤ d → d ≤ D.far → little_endian (take d y) ≡ c) → bit_steps n (overlay y y (distances D)) ≡ bit_steps n c
  unfolding overlay sparse
  fold-steps n c y h hy hc front =
      let first : ℕ → ℕ = λ d. bit_steps (8 * d + n) c in
      let whole : ℕ → ℕ = λ d. bit_steps (8 * d + n) (little_endian y) in
      let after : ℕ → ℕ = λ d. bit_steps n (little_endian (drop d y)) in
      let one : (d : ℕ) → (4 ≤ d) × (d ≤ D.far) → after d ≡ bit_xor (first d) (whole d) =
      λ d l. sym (ap (bit_xor (first d)) (part d n y (omega arith) ∙ ap (λ (k : ℕ). bit_xor (bit_steps (8 * d + n) k) (after d)) (front d l.0 l.1)) ∙ xor_twice (first d) (after d)) in
      xor_cancel (bit_steps n (overlay y y (distances D))) (bit_steps n c) (
      xor_comm (bit_steps n (overlay y y (distances D))) (bit_steps n c)
      ∙ ap (bit_xor (bit_steps n c)) (xor_over-steps n (λ d. little_endian (drop d y)) (little_endian y) (distances D))
      ∙ sym (xor_over_onto after (bit_steps n c) (bit_steps n (little_endian y)) (distances D))
      ∙ xor_over_eq after (λ d. bit_xor (first d) (whole d)) (distances D) M.all refl one
      ∙ xor_over_xor first whole (bit_steps n c) (bit_steps n (little_endian y)) (distances D)
      ∙ ap₂ bit_xor (sparse_zero D M n c hc) (sparse_zero D M n (little_endian y) hy))

  -- what the fold leaves: the last bytes, with what is xored into them
  pub folded : (m y r : List ℕ) (c n : ℕ) → length m ≡ n + D.far → length r ≡ D.far → n + D.far ≤ length y → c < 2 ^ 32
      → ((k : ℕ) → get_or y k 0 < 256)
      → ((i : ℕ) → i < n → get_or y (i + D.far) 0 ≡ bit_xor (get_or m i 0) (taps D y i))
      → ((k : ℕ) → n + D.far ≤ k → get_or y k 0 ≡ 0)
      → ((d : ℕ) → 4 ≤ d → d ≤ D.far → little_endian (take d y) ≡ c)
      → ((j : ℕ) → j < D.far → get_or r j 0 ≡ bit_xor (get_or m (n + j) 0) (taps D y (n + j)))
      → register c m ≡ register 0 r
  folded m y r c n lm lr ly hc bytes byte zeros front rest =
      let N = 8 * (n + D.far) in
      let R = 8 * D.far in
      let hy : little_endian y < 2 ^ N = small (n + D.far) y ly bytes zeros in
      let hs : bit_steps N (overlay y y (distances D)) ≡ bit_steps N c =
      fold-steps N c y (omega arith) hy (lt_of_lt_of_le hc (pow_mono {i = 32} {j = N} (omega (arith, M.all.0.0)))) front in
      let hr : bit_steps N (little_endian r * 2 ^ (8 * n)) ≡ bit_steps R (little_endian r) =
      ap (λ (k : ℕ). bit_steps k (little_endian r * 2 ^ (8 * n))) {x = N} {y = 8 * n + R} (omega arith)
      ∙ bit_steps-add (8 * n) R (little_endian r * 2 ^ (8 * n)) ∙ ap (bit_steps R) (bit_steps_shift (8 * n) (little_endian r)) in
      register-little_endian c m
      ∙ ap (λ (k : ℕ). bit_steps (8 * k) (bit_xor c (little_endian m))) lm
      ∙ bit_steps_xor N c (little_endian m)
      ∙ ap (λ (k : ℕ). bit_xor (bit_steps N c) (bit_steps N k)) (message D m y r n lm lr byte zeros rest)
      ∙ ap (bit_xor (bit_steps N c)) (bit_steps_xor N (overlay y y (distances D)) (little_endian r * 2 ^ (8 * n)) ∙ ap₂ bit_xor hs hr)
      ∙ xor_twice (bit_steps N c) (bit_steps R (little_endian r))
      ∙ ap (λ (k : ℕ). bit_steps (8 * k) (little_endian r)) (sym lr)
      ∙ sym (register-little_endian 0 r)
