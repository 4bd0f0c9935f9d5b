-- Laws of the plain sum: a byte as the index of a row, and a slice in blocks of eight bytes.
use Rattle.std.proofs.Common.{◌≡◌, refl, sym, ap, ap₂, ◌∙◌, subst, List, ℕ, suc, ◌+◌, ◌*◌, ◌-◌, ◌/◌, ◌%◌, ◌^◌, ◌<◌, ◌≤◌, add-zero, mod-eq_of_lt, arith, length, get_or, take, drop, length-drop, drop_of_length-le, drop-cons, get_or-drop, take-add, take_all, length-take-le}
use native.Mathlib.Nat.{mul-mod_left, div-eq_of_lt}
use lib.Bits.{bit_xor, xor_zero_r, xor_comm, xor_shr, xor_mod, xor_shifted}
use lib.Pow.{shr_le, shr-shr, shl-shr, mod-pow-add, low}
use Rattle.crc32c_format.specs.Crc.{bit_steps, register}
use Rattle.crc32c_format.specs.Bytes.{little_endian}
use Rattle.crc32c_format.specs.Method.Xor.{xor_back}
use Rattle.crc32c_format.specs.Method.Steps.{bit_steps-split, bit_steps-add, bit_steps_shift, register-little_endian}
use Rattle.crc32c_format.specs.Method.Parts.{register-take, register_to, register_eight, little_endian-append, little_endian_lt}

-- the rows take a byte xored with 128
pub flipped : (n x : ℕ) {m r : ℕ} → m ≡ bit_xor x 128 → r ≡ bit_steps n (bit_xor m 128) → r ≡ bit_steps n x
flipped n x h g = g ∙ ap (bit_steps n) (ap (λ (k : ℕ). bit_xor k 128) h ∙ xor_back x 128)

-- ---- blocks

-- a block of eight bytes as its two halves
pub halves : (first rest : ℕ) → bit_xor (bit_xor (bit_steps 32 (first / 4294967296)) (bit_steps 64 (first % 4294967296))) rest ≡ bit_xor (bit_steps 64 first) rest
halves first rest =
    ap (λ (z : ℕ). bit_xor z rest) (xor_comm (bit_steps 32 (first / 4294967296)) (bit_steps 64 (first % 4294967296)) ∙ sym (bit_steps-split 32 32 first))

-- what the loop has in hand, by the values of its two calls
pub in_hand : (d : List ℕ) (high low over : ℕ) {a b t : ℕ} → a ≡ bit_steps 32 high → b ≡ bit_steps 64 low
    → register (bit_xor (bit_xor (bit_steps 32 high) (bit_steps 64 low)) over) d ≡ t → register (bit_xor (bit_xor a b) over) d ≡ t
in_hand d high low over ea eb g = ap₂ (λ (p q : ℕ). register (bit_xor (bit_xor p q) over) d) ea eb ∙ g

-- the block after it
pub next_block : (s : List ℕ) (i c : ℕ) {x y t : ℕ} → i + 8 ≤ length s → x ≡ little_endian (take 4 (drop i s)) → y ≡ little_endian (take 4 (drop (i + 4) s))
    → register c (drop i s) ≡ t → register (bit_xor (bit_xor (bit_steps 32 y) (bit_steps 64 (bit_xor c x))) 0) (drop (i + 8) s) ≡ t
next_block s i c {x} {y} h ex ey g =
    ap (λ (z : ℕ). register z (drop (i + 8) s)) (xor_zero_r (bit_xor (bit_steps 32 y) (bit_steps 64 (bit_xor c x))))
    ∙ register-take 8 c s i (register_eight c s i h ex ey refl)
    ∙ g

-- ---- the first block

-- no byte yet
pub few_none : (s : List ℕ) → ◌≡◌ {A = ℕ} 0 (little_endian (drop (length s) s))
unfolding little_endian
few_none s = sym (ap little_endian (drop_of_length-le s {i = length s} (omega arith)))

-- fewer than eight bytes have a number below 2 ^ 56
pub few_lt : (s : List ℕ) (i x : ℕ) → length s < 8 → ((k : ℕ) → get_or s k 0 < 256) → x ≡ little_endian (drop i s) → x < 72057594037927936
few_lt s i x h o e =
    let l : length (drop i s) ≤ 7 = rw length-drop (omega arith) in
    subst (λ (y : ℕ). y < 72057594037927936) (sym (e ∙ ap little_endian (sym (take_all 7 (drop i s) l))))
    (little_endian_lt 7 (drop i s) (λ k. rw get_or-drop (o (i + k))))

-- a byte more before them
pub few_more : (s : List ℕ) (i j x b : ℕ) → suc j ≡ i → j < length s → b ≡ get_or s j 0 → b < 256 → x ≡ little_endian (drop i s)
    → x * 256 + b ≡ little_endian (drop j s)
unfolding little_endian
few_more s i j x b e h eb hb ex =
    sym (xor_shifted x 8 b hb)
    ∙ xor_comm (x * 256) b
    ∙ ap₂ (λ (p q : ℕ). bit_xor p (q * 256)) eb (ex ∙ ap (λ (k : ℕ). little_endian (drop k s)) (sym e))
    ∙ sym (ap little_endian (drop-cons s j 0 h))

-- the number of the first bytes of a list, from that of more of them
front-mod : (w m : ℕ) (s : List ℕ) → w ≤ length s → ((k : ℕ) → get_or s k 0 < 256) → little_endian (take (w + m) s) % 2 ^ (8 * w) ≡ little_endian (take w s)
front-mod w m s h o =
    let a = little_endian (take w s) in
    let b = little_endian (take m (drop w s)) in
    ap (λ (l : List ℕ). little_endian l % 2 ^ (8 * w)) (take-add w m s)
    ∙ ap (λ (z : ℕ). z % 2 ^ (8 * w)) (
    little_endian-append (take w s) (take m (drop w s))
    ∙ ap (λ (n : ℕ). bit_xor a (b * 2 ^ (8 * n))) (length-take-le w s h)
    ∙ xor_comm a (b * 2 ^ (8 * w))
    ∙ xor_shifted b (8 * w) a (little_endian_lt w s o))
    ∙ low b (8 * w) (little_endian_lt w s o)

-- a number shifted up within j + k bits keeps its low bits
shifted_mod : (y j k : ℕ) → y * 2 ^ k % 2 ^ (j + k) ≡ y % 2 ^ j * 2 ^ k
shifted_mod y j k =
    mod-pow-add (y * 2 ^ k) j k
    ∙ ap₂ (λ (p q : ℕ). p % 2 ^ j * 2 ^ k + q) (shl-shr y k) (mul-mod_left y (2 ^ k))
    ∙ add-zero (y % 2 ^ j * 2 ^ k)

-- w bytes after the register c: the steps of the 8 * w low bits of both, and what is left of c
register_low : (c w : ℕ) (s : List ℕ) → w ≤ length s → ((k : ℕ) → get_or s k 0 < 256)
    → register c (take w s) ≡ bit_xor (bit_steps (8 * w) (bit_xor (c % 2 ^ (8 * w)) (little_endian (take w s)))) (c / 2 ^ (8 * w))
unfolding bit_steps
register_low c w s h o =
    let d = little_endian (take w s) in
    let z = bit_xor c d in
    register-little_endian c (take w s)
    ∙ ap (λ (n : ℕ). bit_steps (8 * n) z) (length-take-le w s h)
    ∙ ap (λ (n : ℕ). bit_steps n z) (sym (add-zero (8 * w)))
    ∙ bit_steps-split (8 * w) 0 z
    ∙ ap (λ (n : ℕ). bit_xor (bit_steps n (z % 2 ^ (8 * w))) (z / 2 ^ (8 * w))) (add-zero (8 * w))
    ∙ ap₂ (λ (p q : ℕ). bit_xor (bit_steps (8 * w) p) q)
    (xor_mod c d (8 * w) ∙ ap (bit_xor (c % 2 ^ (8 * w))) (mod-eq_of_lt (little_endian_lt w s o)))
    (xor_shr c d (8 * w) ∙ ap (bit_xor (c / 2 ^ (8 * w))) (div-eq_of_lt (little_endian_lt w s o)) ∙ xor_zero_r (c / 2 ^ (8 * w)))

-- a block whose n low bits are zero
steps-above : (n m a : ℕ) → bit_steps (n + m) (a * 2 ^ n) ≡ bit_steps m a
steps-above n m a = bit_steps-add n m (a * 2 ^ n) ∙ ap (bit_steps m) (bit_steps_shift n a)

-- the first block has k + 1 bytes, above zeros; the part of c that does not meet them comes after it
pub first_block : (c k : ℕ) (s : List ℕ) {f r : ℕ} → k < 8 → suc k ≤ length s → ((j : ℕ) → get_or s j 0 < 256)
    → f ≡ bit_xor (little_endian (take 8 s)) c * 2 ^ (56 - 8 * k) % 2 ^ 64 → r ≡ c / 2 ^ (8 * k) / 2 ^ 8 → bit_xor (bit_steps 64 f) r ≡ register c (take (suc k) s)
first_block c k s {f} {r} hk h o ef er =
    let w = suc k in
    let n = 56 - 8 * k in
    let d = little_endian (take w s) in
    let y = bit_xor (little_endian (take 8 s)) c in
    let eight : w + (7 - k) ≡ 8 = omega arith in
    let up : 8 * w + n ≡ 64 = omega arith in
    let down : n + 8 * w ≡ 64 = omega arith in
    let over : 8 * k + 8 ≡ 8 * w = omega arith in
    let front : little_endian (take 8 s) % 2 ^ (8 * w) ≡ d =
    ap (λ (m : ℕ). little_endian (take m s) % 2 ^ (8 * w)) (sym eight) ∙ front-mod w (7 - k) s h o in
    let met : y % 2 ^ (8 * w) ≡ bit_xor (c % 2 ^ (8 * w)) d =
    xor_mod (little_endian (take 8 s)) c (8 * w) ∙ ap (λ (p : ℕ). bit_xor p (c % 2 ^ (8 * w))) front ∙ xor_comm d (c % 2 ^ (8 * w)) in
    let block : f ≡ bit_xor (c % 2 ^ (8 * w)) d * 2 ^ n =
    ef ∙ ap (λ (m : ℕ). y * 2 ^ n % 2 ^ m) (sym up) ∙ shifted_mod y (8 * w) n ∙ ap (λ (p : ℕ). p * 2 ^ n) met in
    ap₂ bit_xor
    (ap (bit_steps 64) block
    ∙ ap (λ (m : ℕ). bit_steps m (bit_xor (c % 2 ^ (8 * w)) d * 2 ^ n)) (sym down)
    ∙ steps-above n (8 * w) (bit_xor (c % 2 ^ (8 * w)) d))
    (er ∙ shr-shr c (8 * k) 8 ∙ ap (λ (m : ℕ). c / 2 ^ m) over)
    ∙ sym (register_low c w s h o)

-- the whole slice: the first block, and the blocks after it
pub register-blocks : (c k : ℕ) (s : List ℕ) {f r q : ℕ} → k < 8 → suc k ≤ length s → ((j : ℕ) → get_or s j 0 < 256)
    → f ≡ bit_xor (little_endian (take 8 s)) c * 2 ^ (56 - 8 * k) % 2 ^ 64 → r ≡ c / 2 ^ (8 * k) / 2 ^ 8
    → q ≡ register (bit_xor (bit_steps 64 f) r) (drop (k + 1) s) → q ≡ register c s
register-blocks c k s hk h o ef er eq =
    let e : suc k ≡ k + 1 = omega arith in
    eq ∙ register_to (k + 1) c 0 (k + 1) s (omega arith) (first_block c k s hk h o ef er ∙ ap (λ (m : ℕ). register c (take m s)) e)

-- what is left of a register is one
pub rest_lt : (c a : ℕ) → c < 4294967296 → c / 2 ^ a / 2 ^ 8 < 4294967296
rest_lt c a h = let p : c / 2 ^ a ≤ c = shr_le c a in let q : c / 2 ^ a / 2 ^ 8 ≤ c / 2 ^ a = shr_le (c / 2 ^ a) 8 in omega (arith, p, q)

-- ---- in two parts

pub two_parts : (n m c : ℕ) (s : List ℕ) {a b : ℕ} → length s ≤ n + m → a ≡ register c (take n s) → b ≡ register a (take m (drop n s)) → b ≡ register c s
two_parts n m c s {a} h ea eb =
    eb ∙ ap (register a) (take_all m (drop n s) (rw length-drop (omega arith))) ∙ register_to n c 0 n s (omega arith) ea
