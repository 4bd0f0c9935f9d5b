-- Method, laws: one turn of the loop that folds; the window that it starts from, slides and ends
-- with; and the fold as a whole.
use Rattle.std.specs.Prelude.{◌≡◌, refl, List, [], ◌∷◌, ◌++◌, ℕ, zero, suc, ◌+◌, ◌-◌, ◌*◌, ◌/◌, ◌%◌, ◌^◌, ◌<◌, ◌≤◌, take, drop, set, replicate}
use Rattle.std.proofs.Math.Path.{sym, ap, ap₂}
use Rattle.std.proofs.Common.{◌∙◌, subst, mod-lt, zero-add, zero-lt-suc, arith, pow_pos, length-set, get_or-set_same, get_or-set_other}
use Rattle.std.proofs.Math.Logic.{⊎_elim}
use Rattle.std.specs.Int.Bits.{bit_xor, xor_lt, xor_zero_r, xor_shifted}
use Rattle.std.proofs.lemmas.Nat.{xor_comm}
use Rattle.std.proofs.Math.Pow.{split}
use Rattle.std.proofs.Math.ListN.{length, get_or, length-drop, length-append, get_or-append, get_or-eq_default}
use Rattle.std.proofs.lemmas.List.{length-replicate}
use Rattle.std.proofs.Math.Seq.{get_or-take, get_or-drop, get_or-append-add, length-take-le}
use Rattle.crc32c_format.specs.Crc.{register}
use Rattle.crc32c_format.specs.Bytes.{little_endian}
use Rattle.crc32c_format.specs.Method.Fold.{Distances, xor_over, taps, Folded, Slid, Cleared, Rest}
use Rattle.crc32c_format.specs.Method.Lists.{lt_or_ge}
use Rattle.crc32c_format.specs.Method.Sparse.{xor_over_eq, xor_over_lt, Multiple}
use Rattle.crc32c_format.specs.Method.Folding.{little_endian_ext, folded}

-- the four bytes of a register, before a list
abbrev pub register_bytes : ℕ → List ℕ → List ℕ
register_bytes c l = c % 256 ∷ c / 256 % 256 ∷ c / 256 / 256 % 256 ∷ c / 256 / 256 / 256 ∷ l

low_byte : (x : ℕ) → bit_xor (x % 256) (x / 256 * 256) ≡ x
low_byte x = xor_comm (x % 256) (x / 256 * 256) ∙ xor_shifted (x / 256) 8 (x % 256) (mod-lt x (pow_pos 8)) ∙ split x 8

little_endian-register_bytes : (c : ℕ) → little_endian (register_bytes c []) ≡ c
unfolding little_endian
little_endian-register_bytes c =
    ap (λ (x : ℕ). bit_xor (c % 256) (bit_xor (c / 256 % 256) (bit_xor (c / 256 / 256 % 256) (x * 256) * 256) * 256)) (xor_zero_r (c / 256 / 256 / 256))
    ∙ ap (λ (x : ℕ). bit_xor (c % 256) (bit_xor (c / 256 % 256) (x * 256) * 256)) (low_byte (c / 256 / 256))
    ∙ ap (λ (x : ℕ). bit_xor (c % 256) (x * 256)) (low_byte (c / 256))
    ∙ low_byte c

get_or-zeros : (n k : ℕ) → ◌≡◌ {A = ℕ} (get_or (replicate n 0) k 0) 0
get_or-zeros zero k = refl
get_or-zeros (suc n) zero = refl
get_or-zeros (suc n) (suc k) = get_or-zeros n k

-- zeros after the four bytes do not count
get_or-register_bytes : (n c k : ℕ) → get_or (register_bytes c (replicate n 0)) k 0 ≡ get_or (register_bytes c []) k 0
get_or-register_bytes n c zero = refl
get_or-register_bytes n c (suc zero) = refl
get_or-register_bytes n c (suc (suc zero)) = refl
get_or-register_bytes n c (suc (suc (suc zero))) = refl
get_or-register_bytes n c (suc (suc (suc (suc k)))) = get_or-zeros n k

register_bytes_zero : (c k : ℕ) → 4 ≤ k → get_or (register_bytes c []) k 0 ≡ 0
register_bytes_zero c k h = get_or-eq_default (register_bytes c []) 0 {n = k} h

-- the first d bytes of a list that starts so have the register's number
little_endian-front : (c d : ℕ) (y : List ℕ) → 4 ≤ d → d ≤ length y → ((k : ℕ) → k < d → get_or y k 0 ≡ get_or (register_bytes c []) k 0) → little_endian (take d y) ≡ c
little_endian-front c d y l u h =
    let len : length (take d y) ≡ d = length-take-le d y u in
    little_endian_ext (take d y) (register_bytes c []) (λ k.
    ⊎_elim (λ (g : k < d). get_or-take d y k 0 g ∙ h k g)
    (λ (g : d ≤ k). get_or-eq_default (take d y) 0 {n = k} (omega arith) ∙ sym (register_bytes_zero c k (omega arith)))
    (lt_or_ge k d))
    ∙ little_endian-register_bytes c

register_bytes_lt : (c k : ℕ) → c < 2 ^ 32 → get_or (register_bytes c []) k 0 < 256
register_bytes_lt c zero h = omega arith
register_bytes_lt c (suc zero) h = omega arith
register_bytes_lt c (suc (suc zero)) h = omega arith
register_bytes_lt c (suc (suc (suc zero))) h = omega arith
register_bytes_lt c (suc (suc (suc (suc k)))) h = zero-lt-suc 255

-- w begins with the window after the first i bytes of m, from the register c; `past` is all that
-- was folded so far
pub record Window (D : Distances) (m : List ℕ) (c : ℕ) (w : List ℕ) (i : ℕ) : Type 0 where
  pub past : List ℕ
  pub size : length past ≡ i + D.far
  pub bytes : (k : ℕ) → get_or past k 0 < 256
  pub front : (k : ℕ) → k < D.far → get_or past k 0 ≡ get_or (register_bytes c []) k 0
  pub byte : (j : ℕ) → j < i → get_or past (j + D.far) 0 ≡ bit_xor (get_or m j 0) (taps D past j)
  pub seen : (k : ℕ) → k < D.far → get_or w k 0 ≡ get_or past (i + k) 0

module _ (D : Distances) (M : Multiple D) where
  -- the same bytes, n places on, have the same taps
  taps-at : (y z : List ℕ) (n j : ℕ) → ((k : ℕ) → k ≤ j + D.next → get_or y k 0 ≡ get_or z (n + k) 0) → taps D y j ≡ taps D z (n + j)
  unfolding taps
  taps-at y z n j h =
      let one : (d : ℕ) → d ≤ D.next → get_or y (j + d) 0 ≡ get_or z (n + j + d) 0 =
      λ d l. h (j + d) (omega arith) ∙ ap (λ (k : ℕ). get_or z k 0) {x = n + (j + d)} {y = n + j + d} (omega arith) in
      ap₂ bit_xor (xor_over_eq (λ d. get_or y (j + d) 0) (λ d. get_or z (n + j + d) 0) D.others M.near (one D.next (omega arith)) one) (h j (omega arith))

  taps-same : (y z : List ℕ) (j : ℕ) → ((k : ℕ) → k ≤ j + D.next → get_or y k 0 ≡ get_or z k 0) → taps D y j ≡ taps D z j
  taps-same y z j h = taps-at y z 0 j (λ k l. h k l ∙ ap (λ (a : ℕ). get_or z a 0) (sym (zero-add k))) ∙ ap (taps D z) (zero-add j)

  -- a store past the taps does not change them
  taps-set : (z : List ℕ) (p v j : ℕ) → j + D.next < p → taps D (set z p v) j ≡ taps D z j
  taps-set z p v j h = taps-same (set z p v) z j (λ k l. get_or-set_other z p k v 0 (λ e. omega arith))

  -- one byte more is folded
  pub fold_step : (m y z : List ℕ) (i : ℕ) → Folded D m y z i → i + D.far < length z → Folded D m y (set z (i + D.far) (bit_xor (get_or m i 0) (taps D z i))) (i + 1)
  fold_step m y z i f h =
      let v = bit_xor (get_or m i 0) (taps D z i) in
      record {
        same = length-set z (i + D.far) v ∙ f.same;
        byte = λ j l. ⊎_elim
            (λ (g : j < i). get_or-set_other z (i + D.far) (j + D.far) v 0 (λ e. omega arith) ∙ f.byte j g ∙ ap (bit_xor (get_or m j 0)) (sym (taps-set z (i + D.far) v j (omega arith))))
            (λ (g : i ≤ j). subst (λ (k : ℕ). get_or (set z (i + D.far) v) (k + D.far) 0 ≡ bit_xor (get_or m k 0) (taps D (set z (i + D.far) v) k)) {x = i} {y = j} (omega arith)
            (get_or-set_same z (i + D.far) v 0 h ∙ ap (bit_xor (get_or m i 0)) (sym (taps-set z (i + D.far) v i (omega arith)))))
            (lt_or_ge j i);
        before = λ k l. get_or-set_other z (i + D.far) k v 0 (λ e. omega arith) ∙ f.before k l;
        after = λ k l. get_or-set_other z (i + D.far) k v 0 (λ e. omega arith) ∙ f.after k (omega arith);
      }

  taps_lt : (z : List ℕ) (j : ℕ) → ((k : ℕ) → k ≤ j + D.next → get_or z k 0 < 256) → taps D z j < 256
  unfolding taps
  taps_lt z j h =
      xor_lt 8 (xor_over (λ d. get_or z (j + d) 0) (get_or z (j + D.next) 0) D.others) (get_or z j 0)
      (xor_over_lt (λ d. get_or z (j + d) 0) D.others M.near (h (j + D.next) (omega arith)) (λ d l. h (j + d) (omega arith))) (h j (omega arith))

  -- bytes fold to bytes: those at places below a
  folded_lt : (a : ℕ) {m y z : List ℕ} {n : ℕ} → Folded D m y z n → ((k : ℕ) → k < n → get_or m k 0 < 256) → ((k : ℕ) → k < D.far → get_or y k 0 < 256)
      → (k : ℕ) → k < a → k < n + D.far → get_or z k 0 < 256
  folded_lt zero f hm hy k h l = absurd (omega arith)
  folded_lt (suc a) {m} {y} {z} f hm hy k h l =
      let byte : ℕ → Type 0 = λ b. b < 256 in
      let i = k - D.far in
      ⊎_elim (λ (g : k < D.far). subst byte (sym (f.before k g)) (hy k g))
      (λ (g : D.far ≤ k). subst (λ (b : ℕ). get_or z b 0 < 256) {x = i + D.far} {y = k} (omega arith) (subst byte (sym (f.byte i (omega arith)))
      (xor_lt 8 (get_or m i 0) (taps D z i) (hm i (omega arith)) (taps_lt z i (λ b e. folded_lt a f hm hy b (omega arith) (omega arith))))))
      (lt_or_ge k D.far)

  -- before any byte is folded
  pub window-start : (z c : ℕ) (m : List ℕ) → c < 2 ^ 32 → Window D m c (register_bytes c (replicate z 0)) 0
  window-start z c m h =
      let zeros : length {A = ℕ} (replicate (D.far - 4) 0) ≡ D.far - 4 = length-replicate {A = ℕ} (D.far - 4) 0 in
      record {
        past = register_bytes c (replicate (D.far - 4) 0);
        size = omega (arith, zeros);
        bytes = λ k. subst (λ (b : ℕ). b < 256) (sym (get_or-register_bytes (D.far - 4) c k)) (register_bytes_lt c k h);
        front = λ k l. get_or-register_bytes (D.far - 4) c k;
        byte = λ j l. absurd (omega arith);
        seen = λ k l. get_or-register_bytes z c k ∙ sym (get_or-register_bytes (D.far - 4) c k) ∙ ap (λ (a : ℕ). get_or (register_bytes c (replicate (D.far - 4) 0)) a 0) (sym (zero-add k));
      }

  -- n bytes more are folded, those of m', and the window slides past them
  module _ (m m' w z w' : List ℕ) (c i n : ℕ) (v : Window D m c w i) (f : Folded D m' w z n) (s : Slid D z w' n) (lz : n + D.far ≤ length z)
      (bytes : (k : ℕ) → get_or m k 0 < 256) (part : (j : ℕ) → j < n → get_or m' j 0 ≡ get_or m (i + j) 0) where
    new : List ℕ
    new = take n (drop D.far z)

    old : (k : ℕ) → k < i + D.far → get_or (v.past ++ new) k 0 ≡ get_or v.past k 0
    old k h = get_or-append v.past new 0 k (omega (arith, v.size))

    agree : (k : ℕ) → k < n + D.far → get_or z k 0 ≡ get_or (v.past ++ new) (i + k) 0
    unfolding new
    agree k h =
        ⊎_elim
        (λ (g : k < D.far). f.before k g ∙ v.seen k g ∙ sym (old (i + k) (omega arith)))
        (λ (g : D.far ≤ k). sym (
        ap (λ (a : ℕ). get_or (v.past ++ new) a 0) {x = i + k} {y = length v.past + (k - D.far)} (omega (arith, v.size))
        ∙ get_or-append-add v.past new (k - D.far) 0
        ∙ get_or-take n (drop D.far z) (k - D.far) 0 (omega arith)
        ∙ get_or-drop D.far z (k - D.far) 0
        ∙ ap (λ (a : ℕ). get_or z a 0) {x = D.far + (k - D.far)} {y = k} (omega arith)))
        (lt_or_ge k D.far)

    length-past : length (v.past ++ new) ≡ i + n + D.far
    unfolding new
    length-past =
        let e : length new ≡ n = length-take-le n (drop D.far z) (rw length-drop (omega arith)) in
        length-append v.past new ∙ omega (arith, v.size, e)

    folded_bytes : (k : ℕ) → k < n + D.far → get_or z k 0 < 256
    folded_bytes k h =
        let byte : ℕ → Type 0 = λ b. b < 256 in
        folded_lt (suc k) f (λ j l. subst byte (sym (part j l)) (bytes (i + j))) (λ j l. subst byte (sym (v.seen j l)) (v.bytes (i + j))) k (omega arith) h

    past_bytes : (k : ℕ) → get_or (v.past ++ new) k 0 < 256
    past_bytes k =
        let byte : ℕ → Type 0 = λ b. b < 256 in
        ⊎_elim (λ (g : k < i + D.far). subst byte (sym (old k g)) (v.bytes k))
        (λ (g : i + D.far ≤ k). ⊎_elim
        (λ (l : k < i + n + D.far). subst (λ (a : ℕ). get_or (v.past ++ new) a 0 < 256) {x = i + (k - i)} {y = k} (omega arith) (subst byte (agree (k - i) (omega arith)) (folded_bytes (k - i) (omega arith))))
        (λ (l : i + n + D.far ≤ k). subst byte (sym (get_or-eq_default (v.past ++ new) 0 {n = k} (omega (arith, length-past)))) (zero-lt-suc 255))
        (lt_or_ge k (i + n + D.far)))
        (lt_or_ge k (i + D.far))

    abbrev folds : ℕ → Type 0
    folds j = get_or (v.past ++ new) (j + D.far) 0 ≡ bit_xor (get_or m j 0) (taps D (v.past ++ new) j)

    earlier : (j : ℕ) → j < i → folds j
    earlier j h = old (j + D.far) (omega arith) ∙ v.byte j h ∙ ap (bit_xor (get_or m j 0)) (taps-same v.past (v.past ++ new) j (λ k l. sym (old k (omega arith))))

    later : (j : ℕ) → j < n → folds (i + j)
    later j h =
        ap (λ (a : ℕ). get_or (v.past ++ new) a 0) {x = i + j + D.far} {y = i + (j + D.far)} (omega arith)
        ∙ sym (agree (j + D.far) (omega arith)) ∙ f.byte j h
        ∙ ap₂ bit_xor (part j h) (taps-at z (v.past ++ new) i j (λ k l. agree k (omega arith)))

    pub window-slide : Window D m c w' (i + n)
    window-slide = record {
      past = v.past ++ new;
      size = length-past;
      bytes = past_bytes;
      front = λ k l. old k (omega arith) ∙ v.front k l;
      byte = λ j l. ⊎_elim (λ (g : j < i). earlier j g) (λ (g : i ≤ j). subst folds {x = i + (j - i)} {y = j} (omega arith) (later (j - i) (omega arith))) (lt_or_ge j i);
      seen = λ k l. s.byte k l ∙ agree (n + k) (omega arith) ∙ ap (λ (a : ℕ). get_or (v.past ++ new) a 0) {x = i + (n + k)} {y = i + n + k} (omega arith);
    }

  -- the register after what the fold leaves of the last D .far bytes, those of l, is the register
  -- after the message
  pub register-fold : (m l w y r : List ℕ) (c n : ℕ) → Window D m c w n → Cleared D w y → Rest D l y r → ((j : ℕ) → j < D.far → get_or l j 0 ≡ get_or m (n + j) 0)
      → length m ≡ n + D.far → c < 2 ^ 32 → register 0 r ≡ register c m
  register-fold m l w y r c n v e q part lm hc =
      let past = v.past in
      let zeros : (k : ℕ) → n + D.far ≤ k → get_or past k 0 ≡ 0 = λ k h. get_or-eq_default past 0 {n = k} (omega (arith, v.size)) in
      let same : (k : ℕ) → k < D.far + D.next → get_or y k 0 ≡ get_or past (n + k) 0 =
      λ k h. ⊎_elim (λ (g : k < D.far). e.before k g ∙ v.seen k g) (λ (g : D.far ≤ k). e.zero k g h ∙ sym (zeros (n + k) (omega arith))) (lt_or_ge k D.far) in
      sym (folded D M m past r c n lm q.len (omega (arith, v.size)) hc v.bytes v.byte zeros
      (λ d a b. little_endian-front c d past (omega arith) (omega (arith, v.size)) (λ k h. v.front k (omega arith)))
      (λ j h. q.byte j h ∙ ap₂ bit_xor (part j h) (taps-at y past n j (λ k a. same k (omega arith)))))

  -- the same for a message folded at once, from 0: y, which is z from n on, needs no window
  pub register-fold_once : (m l z y r : List ℕ) (n k : ℕ) → Folded D m (register_bytes 0 (replicate k 0)) z n → Rest D l y r → ((j : ℕ) → get_or m j 0 < 256)
      → ((j : ℕ) → j < D.far → get_or l j 0 ≡ get_or m (n + j) 0) → ((j : ℕ) → j < D.far + D.next → get_or y j 0 ≡ get_or z (n + j) 0)
      → length m ≡ n + D.far → n + D.far ≤ k + 4 → register 0 r ≡ register 0 m
  register-fold_once m l z y r n k f q bytes last seen lm lk =
      let zeros : length {A = ℕ} (replicate k 0) ≡ k = length-replicate {A = ℕ} k 0 in
      let v : Window D m 0 y (0 + n) =
      window-slide m m (register_bytes 0 (replicate k 0)) z y 0 0 n (window-start k 0 m (omega arith)) f (record { byte = λ j h. seen j (omega arith) }) (omega (arith, f.same, zeros)) bytes
      (λ j h. ap (λ (a : ℕ). get_or m a 0) (sym (zero-add j))) in
      let gone : (j : ℕ) → D.far ≤ j → j < D.far + D.next → get_or y j 0 ≡ 0 =
      λ j g h. seen j h ∙ f.after (n + j) (omega arith) ∙ get_or-register_bytes k 0 (n + j) ∙ register_bytes_zero 0 (n + j) (omega (arith, M.all.0.0)) in
      register-fold m l y y r 0 n (subst (Window D m 0 y) (zero-add n) v) (record { before = λ j h. refl; zero = gone }) q last lm (omega arith)
