-- Method, laws: by `slice_table` the register is that of CRC-32C; and the steps of loops by a table.
use Rattle.std.specs.Prelude.{◌≡◌, refl, List, [], ◌∷◌, ℕ, zero, suc, ◌+◌, ◌*◌, ◌-◌, ◌/◌, ◌%◌, ◌<◌, ◌≤◌, length, get_or, take, drop}
use Rattle.std.proofs.Common.{sym, ap, ap₂, ◌∙◌, subst, add-zero, add_comm, mul-zero, mul-suc, arith, length-drop, drop_of_length-le, get_or-drop, take-add, drop-drop}
use Rattle.std.specs.Int.Bits.{bit_xor}
use Rattle.std.proofs.lemmas.Nat.{xor_lt}
use Rattle.crc32c_format.specs.Crc.{bit_steps, register}
use Rattle.crc32c_format.specs.Bytes.{little_endian}
use Rattle.crc32c_format.specs.Table.{slice_table}
use Rattle.crc32c_format.specs.TableSum.{look_up2, look_up4, table_step1, table_step4, table_step8, steps, table_register}
use Rattle.crc32c_format.specs.Method.Steps.{bit_steps-split, left_halves, register-append, register_lt}
use Rattle.crc32c_format.specs.Method.Parts.{register-part, register-one, register_eight, register-take, little_endian_lt}
use Rattle.crc32c_format.specs.Method.Tables.{slice_at}

-- ---- one step of each width

look_up2-slices : (k x : ℕ) → k < 7 → x < 65536 → look_up2 slice_table k x ≡ bit_steps (16 + 4 * (2 * k)) x
unfolding look_up2
look_up2-slices k x hk hx =
    left_halves 2 (2 * k) x
    (slice_at (k + 1) (x % 256) (omega arith) (omega arith) ∙ ap (λ (j : ℕ). bit_steps j (x % 256)) (omega arith))
    (slice_at k (x / 256) (omega arith) (omega arith) ∙ ap (λ (j : ℕ). bit_steps j (x / 256)) (omega arith))

look_up4-slices : (k x : ℕ) → k < 5 → x < 4294967296 → look_up4 slice_table k x ≡ bit_steps (32 + 4 * (2 * k)) x
unfolding look_up4
look_up4-slices k x hk hx =
    left_halves 4 (2 * k) x
    (look_up2-slices (k + 2) (x % 65536) (omega arith) (omega arith) ∙ ap (λ (j : ℕ). bit_steps j (x % 65536)) (omega arith))
    (look_up2-slices k (x / 65536) (omega arith) (omega arith))

-- a list whose numbers are all bytes
abbrev Octets : List ℕ → Type 0
Octets s = (k : ℕ) → get_or s k 0 < 256

octets_drop : (n : ℕ) (s : List ℕ) → Octets s → Octets (drop n s)
octets_drop n s h k = rw get_or-drop (h (n + k))

octets_take : (n : ℕ) (s : List ℕ) → Octets s → Octets (take n s)
octets_take zero s h k = omega arith
octets_take (suc n) [] h k = omega arith
octets_take (suc n) (b ∷ s) h zero = h 0
octets_take (suc n) (b ∷ s) h (suc k) = octets_take n s (λ i. h (suc i)) k

-- a step that takes w bytes and does to the register what CRC-32C does
abbrev Right : ℕ → (ℕ → List ℕ → ℕ) → Type 0
Right w step = (c : ℕ) (s : List ℕ) → w ≤ length s → c < 4294967296 → Octets s → step c s ≡ register c (take w s)

right1 : Right 1 (table_step1 slice_table)
unfolding table_step1 bit_steps
right1 c s l hc h =
    let x = bit_xor c (get_or s 0 0) in
    ap (λ (p : ℕ). bit_xor p (x / 256))
    (ap (λ (j : ℕ). get_or slice_table j 0) {x = x % 256} {y = 0 * 256 + x % 256} (omega arith) ∙ slice_at 0 (x % 256) (omega arith) (omega arith))
    ∙ sym (bit_steps-split 8 0 x)
    ∙ register-one c s 0 l

right4 : Right 4 (table_step4 slice_table)
unfolding table_step4
right4 c s l hc h =
    look_up4-slices 0 (bit_xor c (little_endian (take 4 s))) (omega arith) (xor_lt 32 c (little_endian (take 4 s)) hc (little_endian_lt 4 s h))
    ∙ sym (register-part 4 c s 0 l)

right8 : Right 8 (table_step8 slice_table)
unfolding table_step8
right8 c s l hc h =
    register_eight c s 0 {x = little_endian (take 4 s)} {y = little_endian (take 4 (drop 4 s))} l refl refl
    (ap₂ bit_xor (look_up4-slices 0 (little_endian (take 4 (drop 4 s))) (omega arith) (little_endian_lt 4 (drop 4 s) (octets_drop 4 s h)))
    (look_up4-slices 4 (bit_xor c (little_endian (take 4 s))) (omega arith) (xor_lt 32 c (little_endian (take 4 s)) hc (little_endian_lt 4 s h))))

-- ---- many steps

steps_right : (w : ℕ) (step : ℕ → List ℕ → ℕ) → Right w step → (n c : ℕ) (s : List ℕ) → w * n ≤ length s → c < 4294967296 → Octets s
    → steps w step n c s ≡ register c (take (w * n) s)
unfolding steps register
steps_right w step right zero c s l hc h = ap (λ (k : ℕ). register c (take k s)) (sym (mul-zero w))
steps_right w step right (suc n) c s l hc h =
    let e : w + w * n ≡ w * suc n = add_comm w (w * n) ∙ sym (mul-suc w n) in
    let first : step c s ≡ register c (take w s) = right c s (omega arith) hc h in
    let small : step c s < 4294967296 = subst (λ (x : ℕ). x < 4294967296) (sym first) (register_lt c (take w s) hc (octets_take w s h)) in
    steps_right w step right n (step c s) (drop w s) (rw length-drop (omega arith)) small (octets_drop w s h)
    ∙ ap (λ (x : ℕ). register x (take (w * n) (drop w s))) first
    ∙ sym (register-append c (take w s) (take (w * n) (drop w s)))
    ∙ ap (register c) (sym (take-add w (w * n) s))
    ∙ ap (λ (k : ℕ). register c (take k s)) e

-- the same, at a place: the register is below 2 ^ 32 and goes on with the bytes after those
steps-at : (w : ℕ) (step : ℕ → List ℕ → ℕ) → Right w step → (n c at next : ℕ) (s : List ℕ) → at + w * n ≡ next → next ≤ length s → c < 4294967296 → Octets s
    → (steps w step n c (drop at s) < 4294967296) × (register (steps w step n c (drop at s)) (drop next s) ≡ register c (drop at s))
steps-at w step right n c at next s e l hc h =
    let r : steps w step n c (drop at s) ≡ register c (take (w * n) (drop at s)) =
    steps_right w step right n c (drop at s) (rw length-drop (omega arith)) hc (octets_drop at s h) in (
      subst (λ (x : ℕ). x < 4294967296) (sym r) (register_lt c (take (w * n) (drop at s)) hc (octets_take (w * n) (drop at s) (octets_drop at s h))),
      ap (λ (k : ℕ). register (steps w step n c (drop at s)) (drop k s)) (sym e) ∙ register-take (w * n) c s at r,
    )

pub table_register-slices : (c : ℕ) (s : List ℕ) → c < 4294967296 → Octets s → table_register slice_table c s ≡ register c s
unfolding table_register register
table_register-slices c s hc h =
    let n = length s in
    let eights = steps 8 (table_step8 slice_table) (n / 8) c s in
    let four = steps 4 (table_step4 slice_table) (n % 8 / 4) eights (drop (n - n % 8) s) in
    let a = steps-at 8 (table_step8 slice_table) right8 (n / 8) c 0 (n - n % 8) s (omega arith) (omega arith) hc h in
    let b = steps-at 4 (table_step4 slice_table) right4 (n % 8 / 4) eights (n - n % 8) (n - n % 4) s (omega arith) (omega arith) a.0 h in
    let d = steps-at 1 (table_step1 slice_table) right1 (n % 4) four (n - n % 4) n s (omega arith) (omega arith) b.0 h in
    sym (ap (register (steps 1 (table_step1 slice_table) (n % 4) four (drop (n - n % 4) s))) (drop_of_length-le s {i = n} (omega arith)))
    ∙ d.1 ∙ b.1 ∙ a.1

-- ---- loops

-- a loop takes one step more
pub steps_more : (w : ℕ) (step : ℕ → List ℕ → ℕ) (n m c at : ℕ) (s : List ℕ) {r : ℕ} → m ≡ suc n → r ≡ step c (drop at s)
    → steps w step n r (drop (at + w) s) ≡ steps w step m c (drop at s)
unfolding steps
steps_more w step n m c at s e g = ap₂ (steps w step n) g (sym (drop-drop w at s)) ∙ ap (λ (k : ℕ). steps w step k c (drop at s)) (sym e)

-- one step, and none
pub steps_once : (w : ℕ) (step : ℕ → List ℕ → ℕ) (n c : ℕ) (s : List ℕ) → n ≡ 1 → steps w step n c s ≡ step c s
unfolding steps
steps_once w step n c s e = ap (λ (k : ℕ). steps w step k c s) e

pub steps-none : (w : ℕ) (step : ℕ → List ℕ → ℕ) (n c : ℕ) (s : List ℕ) → n ≡ 0 → steps w step n c s ≡ c
unfolding steps
steps-none w step n c s e = ap (λ (k : ℕ). steps w step k c s) e

-- the steps of the code: the byte and the bytes are read at a place
pub table_step1-at : (t s : List ℕ) (c at : ℕ) → table_step1 t c (get_or s at 0 ∷ []) ≡ table_step1 t c (drop at s)
unfolding table_step1
table_step1-at t s c at =
    ap (λ (b : ℕ). bit_xor (get_or t (bit_xor c b % 256) 0) (bit_xor c b / 256)) (ap (λ (k : ℕ). get_or s k 0) (sym (add-zero at)) ∙ sym (get_or-drop at s 0 0))

pub table_step8-at : (t s : List ℕ) (c at : ℕ) {x y p q : ℕ} → y ≡ little_endian (take 4 (drop (at + 4) s)) → x ≡ little_endian (take 4 (drop at s))
    → p ≡ look_up4 t 0 y → q ≡ look_up4 t 4 (bit_xor c x) → bit_xor p q ≡ table_step8 t c (drop at s)
unfolding table_step8
table_step8-at t s c at ey ex gp gq =
    ap₂ bit_xor (gp ∙ ap (look_up4 t 0) (ey ∙ ap (λ (l : List ℕ). little_endian (take 4 l)) (sym (drop-drop 4 at s)))) (gq ∙ ap (λ (z : ℕ). look_up4 t 4 (bit_xor c z)) ex)

-- three bytes
pub table_register_three : (t : List ℕ) (c x y z : ℕ) {a b r : ℕ} → a ≡ table_step1 t c (x ∷ []) → b ≡ table_step1 t a (y ∷ []) → r ≡ table_step1 t b (z ∷ [])
    → r ≡ table_register t c (x ∷ y ∷ z ∷ [])
unfolding table_register steps table_step1
table_register_three t c x y z ha hb hr =
    hr ∙ ap (λ (k : ℕ). table_step1 t k (z ∷ [])) (hb ∙ ap (λ (k : ℕ). table_step1 t k (y ∷ [])) ha)

-- the three runs of the code, where it names the places by their distance from the end
pub table_register_of : (t s : List ℕ) (c : ℕ) {a b r : ℕ} → a ≡ steps 8 (table_step8 t) (length s / 8) c s
    → b ≡ steps 4 (table_step4 t) ((length s - (length s - length s % 8)) / 4) a (drop (length s - length s % 8) s)
    → r ≡ steps 1 (table_step1 t) (length s - (length s - length s % 4)) b (drop (length s - length s % 4) s) → r ≡ table_register t c s
unfolding table_register
table_register_of t s c {a} {b} {r} ha hb hr =
    let n = length s in
    let four : (n - (n - n % 8)) / 4 ≡ n % 8 / 4 = omega arith in
    let singles : n - (n - n % 4) ≡ n % 4 = omega arith in
    hr ∙ ap₂ (λ (k x : ℕ). steps 1 (table_step1 t) k x (drop (n - n % 4) s)) singles
    (hb ∙ ap₂ (λ (k x : ℕ). steps 4 (table_step4 t) k x (drop (n - n % 8) s)) four ha)
