-- Method, laws: a bit step is linear over xor, so the steps of a number are the xor of those of its
-- parts; and the register as one number.
use Rattle.std.specs.Prelude.{◌≡◌, refl, List, [], ◌∷◌, ◌++◌, ℕ, zero, suc, ◌+◌, ◌*◌, ◌/◌, ◌%◌, ◌^◌, ◌<◌, length, get_or}
use Rattle.std.proofs.Common.{sym, ap, ap₂, ◌∙◌, zero-add, suc-add, mul-one, mul_assoc, mul-div_cancel, mod-lt, zero-lt-suc, pow-suc, arith, pow_pos}
use Rattle.std.proofs.Math.Nat.{mul-mod_left}
use Rattle.std.specs.Int.Bits.{bit_xor, xor_zero_r, xor_shifted}
use Rattle.std.proofs.lemmas.Nat.{xor_lt, xor_comm, xor_shr, xor_mod}
use Rattle.std.proofs.Math.Pow.{split}
use Rattle.crc32c_format.specs.Crc.{bit_step, bit_steps, register}
use Rattle.crc32c_format.specs.Bytes.{little_endian}
use Rattle.crc32c_format.specs.Method.Xor.{digit, odd, xor_assoc, xor_four}

-- the polynomial times the xor of two binary digits
poly_xor : (x y : ℕ) → x < 2 → y < 2 → bit_xor x y * 0x82F63B78 ≡ bit_xor (x * 0x82F63B78) (y * 0x82F63B78)
poly_xor x y hx hy =
    digit (λ x. bit_xor x y * 0x82F63B78 ≡ bit_xor (x * 0x82F63B78) (y * 0x82F63B78))
    (digit (λ y. y * 0x82F63B78 ≡ bit_xor 0 (y * 0x82F63B78)) refl refl y hy)
    (digit (λ y. bit_xor 1 y * 0x82F63B78 ≡ bit_xor 0x82F63B78 (y * 0x82F63B78)) refl refl y hy)
    x hx

pub bit_step_xor : (a b : ℕ) → bit_step (bit_xor a b) ≡ bit_xor (bit_step a) (bit_step b)
unfolding bit_step
bit_step_xor a b =
    ap₂ (λ (r q : ℕ). bit_xor (r * 0x82F63B78) q) (xor_mod a b 1) (xor_shr a b 1)
    ∙ ap (λ (r : ℕ). bit_xor r (bit_xor (a / 2) (b / 2))) (poly_xor (a % 2) (b % 2) (odd a) (odd b))
    ∙ xor_four (a % 2 * 0x82F63B78) (b % 2 * 0x82F63B78) (a / 2) (b / 2)

pub bit_steps_xor : (n a b : ℕ) → bit_steps n (bit_xor a b) ≡ bit_xor (bit_steps n a) (bit_steps n b)
unfolding bit_steps
bit_steps_xor zero a b = refl
bit_steps_xor (suc n) a b = ap (bit_steps n) (bit_step_xor a b) ∙ bit_steps_xor n (bit_step a) (bit_step b)

pub bit_steps-add : (m n c : ℕ) → bit_steps (m + n) c ≡ bit_steps n (bit_steps m c)
unfolding bit_steps
bit_steps-add zero n c = simp zero-add
bit_steps-add (suc m) n c = rw suc-add (bit_steps-add m n (bit_step c))

pub bit_steps_zero : (n : ℕ) → bit_steps n 0 ≡ 0
unfolding bit_steps bit_step
bit_steps_zero zero = refl
bit_steps_zero (suc n) = bit_steps_zero n

-- one step of a loop
pub bit_steps_more : (n m c : ℕ) {r : ℕ} → m ≡ suc n → r ≡ bit_step c → bit_steps n r ≡ bit_steps m c
unfolding bit_steps
bit_steps_more n m c e g = ap (bit_steps n) g ∙ ap (λ (k : ℕ). bit_steps k c) (sym e)

-- where the lowest bit is 0, a step only shifts
bit_step_even : (a : ℕ) → bit_step (a * 2) ≡ a
unfolding bit_step
bit_step_even a = simp (mul-mod_left, mul-div_cancel a (zero-lt-suc 1))

-- where the k lowest bits are 0, k steps only shift
pub bit_steps_shift : (k a : ℕ) → bit_steps k (a * 2 ^ k) ≡ a
unfolding bit_steps
bit_steps_shift zero a = mul-one a
bit_steps_shift (suc k) a =
    ap (λ (x : ℕ). bit_steps k (bit_step x)) (ap (λ (x : ℕ). a * x) (pow-suc 2 k) ∙ sym (mul_assoc a (2 ^ k) 2))
    ∙ ap (bit_steps k) (bit_step_even (a * 2 ^ k))
    ∙ bit_steps_shift k a

-- w + n steps of x: those of its w low bits, and n steps of the rest, which is shifted by w
pub bit_steps-split : (w n x : ℕ) → bit_steps (w + n) x ≡ bit_xor (bit_steps (w + n) (x % 2 ^ w)) (bit_steps n (x / 2 ^ w))
bit_steps-split w n x =
    ap (bit_steps (w + n)) (sym (split x w) ∙ sym (xor_shifted (x / 2 ^ w) w (x % 2 ^ w) (mod-lt x (pow_pos w))))
    ∙ bit_steps_xor (w + n) (x / 2 ^ w * 2 ^ w) (x % 2 ^ w)
    ∙ ap (λ (y : ℕ). bit_xor y (bit_steps (w + n) (x % 2 ^ w)))
    (bit_steps-add w n (x / 2 ^ w * 2 ^ w) ∙ ap (bit_steps n) (bit_steps_shift w (x / 2 ^ w)))
    ∙ xor_comm (bit_steps n (x / 2 ^ w)) (bit_steps (w + n) (x % 2 ^ w))

-- the steps of x, from those of its two halves of 4 * d bits
pub left_halves : (d k x : ℕ) {p q : ℕ} → p ≡ bit_steps (4 * d + 4 * (k + d)) (x % 2 ^ (4 * d)) → q ≡ bit_steps (4 * d + 4 * k) (x / 2 ^ (4 * d))
    → bit_xor p q ≡ bit_steps (4 * (d + d) + 4 * k) x
left_halves d k x {p} {q} hp hq =
    let e : 4 * d + 4 * (k + d) ≡ 4 * d + (4 * d + 4 * k) = omega arith in
    let g : 4 * d + (4 * d + 4 * k) ≡ 4 * (d + d) + 4 * k = omega arith in
    ap₂ bit_xor (hp ∙ ap (λ (n : ℕ). bit_steps n (x % 2 ^ (4 * d))) e) hq
    ∙ sym (bit_steps-split (4 * d) (4 * d + 4 * k) x)
    ∙ ap (λ (n : ℕ). bit_steps n x) g

-- the register after two lists, one after the other
pub register-append : (c : ℕ) (xs ys : List ℕ) → register c (xs ++ ys) ≡ register (register c xs) ys
unfolding register
register-append c [] ys = refl
register-append c (x ∷ xs) ys = register-append (bit_steps 8 (bit_xor c x)) xs ys

-- a list of bytes at once: its number is xored into the register, then eight steps for each byte
pub register-little_endian : (c : ℕ) (bs : List ℕ) → register c bs ≡ bit_steps (8 * length bs) (bit_xor c (little_endian bs))
unfolding register bit_steps little_endian
register-little_endian c [] = sym (xor_zero_r c)
register-little_endian c (b ∷ bs) =
    register-little_endian (bit_steps 8 (bit_xor c b)) bs
    ∙ ap (bit_steps (8 * length bs)) (
    sym (
    ap (bit_steps 8) (sym (xor_assoc c b (little_endian bs * 256)))
    ∙ bit_steps_xor 8 (bit_xor c b) (little_endian bs * 256)
    ∙ ap (bit_xor (bit_steps 8 (bit_xor c b))) (bit_steps_shift 8 (little_endian bs))))
    ∙ sym (bit_steps-add 8 (8 * length bs) (bit_xor c (little_endian (b ∷ bs))))
    ∙ ap (λ (n : ℕ). bit_steps n (bit_xor c (little_endian (b ∷ bs)))) {x = 8 + 8 * length bs} {y = 8 * suc (length bs)} (omega arith)

-- ---- bounds: a register of 32 bits stays one

pub bit_steps_lt : (n x : ℕ) → x < 4294967296 → bit_steps n x < 4294967296
unfolding bit_steps bit_step
bit_steps_lt zero x h = h
bit_steps_lt (suc n) x h = bit_steps_lt n (bit_step x) (xor_lt 32 (x % 2 * 0x82F63B78) (x / 2) (omega arith) (omega arith))

pub register_lt : (c : ℕ) (s : List ℕ) → c < 4294967296 → ((k : ℕ) → get_or s k 0 < 256) → register c s < 4294967296
unfolding register
register_lt c [] hc h = hc
register_lt c (b ∷ s) hc h =
    let hb : b < 256 = h 0 in
    register_lt (bit_steps 8 (bit_xor c b)) s (bit_steps_lt 8 (bit_xor c b) (xor_lt 32 c b hc (omega arith))) (λ k. h (suc k))
