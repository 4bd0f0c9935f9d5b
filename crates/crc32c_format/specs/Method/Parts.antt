-- Method, laws: parts of a list of bytes, their numbers, and the register after them.
use Rattle.std.specs.Prelude.{◌≡◌, List, [], ◌∷◌, ◌++◌, ℕ, zero, suc, ◌+◌, ◌*◌, ◌^◌, ◌<◌, ◌≤◌, length, get_or, take, drop}
use Rattle.std.proofs.Common.{sym, ap, ap₂, ◌∙◌, subst, add_comm, mul-one, mul_assoc, zero-lt-suc, lt_of_lt_of_le, arith, pow-add, pow_mono, pow_pos, shl_lt, take-append-drop, length-drop, drop_of_length-le, drop-cons, drop-drop, take-add, length-take-le, get_or-take, get_or-drop}
use Rattle.std.specs.Int.Bits.{bit_xor, xor_zero_r, xor_shifted}
use Rattle.std.proofs.lemmas.Nat.{xor_lt, xor_comm}
use Rattle.crc32c_format.specs.Crc.{bit_steps, register}
use Rattle.crc32c_format.specs.Bytes.{little_endian}
use Rattle.crc32c_format.specs.Method.Xor.{xor_assoc, xor_mul}
use Rattle.crc32c_format.specs.Method.Steps.{bit_steps_xor, bit_steps-add, bit_steps_shift, register-append, register-little_endian}

-- the register after n bytes goes on with the bytes after them
pub register-take : (n : ℕ) (c : ℕ) (s : List ℕ) (at : ℕ) {r : ℕ} → r ≡ register c (take n (drop at s))
    → register r (drop (at + n) s) ≡ register c (drop at s)
register-take n c s at h =
    ap₂ register h (sym (drop-drop n at s))
    ∙ sym (register-append c (take n (drop at s)) (drop n (drop at s)))
    ∙ ap (register c) (take-append-drop n (drop at s))

-- the same, where the place after them is given by an equation
pub register_to : (n c at next : ℕ) (s : List ℕ) {r : ℕ} → at + n ≡ next → r ≡ register c (take n (drop at s)) → register r (drop next s) ≡ register c (drop at s)
register_to n c at next s {r} e h = ap (λ (k : ℕ). register r (drop k s)) (sym e) ∙ register-take n c s at h

-- no byte is left
pub register-done : (c at : ℕ) (s : List ℕ) → length s ≤ at → register c (drop at s) ≡ c
unfolding register
register-done c at s h = ap (register c) (drop_of_length-le s {i = at} h)

take-one : (s : List ℕ) (at : ℕ) → at < length s → take 1 (drop at s) ≡ get_or s at 0 ∷ []
take-one s at h = ap (take 1) (drop-cons s at 0 h)

pub register-one : (c : ℕ) (s : List ℕ) (at : ℕ) → at < length s → bit_steps 8 (bit_xor c (get_or s at 0)) ≡ register c (take 1 (drop at s))
unfolding register
register-one c s at h = sym (ap (register c) (take-one s at h))

pub little_endian-one : (s : List ℕ) (at : ℕ) → at < length s → get_or s at 0 ≡ little_endian (take 1 (drop at s))
unfolding little_endian
little_endian-one s at h = sym (ap little_endian (take-one s at h) ∙ xor_zero_r (get_or s at 0))

pub little_endian-append : (xs ys : List ℕ) → little_endian (xs ++ ys) ≡ bit_xor (little_endian xs) (little_endian ys * 2 ^ (8 * length xs))
unfolding little_endian
little_endian-append [] ys = sym (mul-one (little_endian ys))
little_endian-append (x ∷ xs) ys =
    ap (λ (n : ℕ). bit_xor x (n * 256)) (little_endian-append xs ys)
    ∙ ap (bit_xor x) (xor_mul (little_endian xs) (little_endian ys * 2 ^ (8 * length xs)))
    ∙ sym (xor_assoc x (little_endian xs * 256) (little_endian ys * 2 ^ (8 * length xs) * 256))
    ∙ ap (bit_xor (bit_xor x (little_endian xs * 256))) (mul_assoc (little_endian ys) (2 ^ (8 * length xs)) 256 ∙ ap (λ (n : ℕ). little_endian ys * n) (
    sym (pow-add 2 (8 * length xs) 8) ∙ ap (λ (n : ℕ). 2 ^ n) {x = 8 * length xs + 8} {y = 8 * suc (length xs)} (omega arith)))

-- n bytes and n more
pub take_twice : (n : ℕ) (s : List ℕ) (at : ℕ) → take (n + n) (drop at s) ≡ take n (drop at s) ++ take n (drop (at + n) s)
take_twice n s at = take-add n n (drop at s) ∙ ap (λ (l : List ℕ). take n (drop at s) ++ take n l) (drop-drop n at s)

pub length_part : (n : ℕ) (s : List ℕ) (at : ℕ) → at + n ≤ length s → length (take n (drop at s)) ≡ n
length_part n s at h = length-take-le n (drop at s) (rw length-drop (omega arith))

pub get_d_part : (n : ℕ) (s : List ℕ) (at j : ℕ) → j < n → get_or (take n (drop at s)) j 0 ≡ get_or s (at + j) 0
get_d_part n s at j h = get_or-take n (drop at s) j 0 h ∙ get_or-drop at s j 0

pub little_endian_halves : (n : ℕ) (s : List ℕ) (at : ℕ) {x y : ℕ} → at + n ≤ length s → x < 2 ^ (8 * n)
    → x ≡ little_endian (take n (drop at s)) → y ≡ little_endian (take n (drop (at + n) s)) → x + y * 2 ^ (8 * n) ≡ little_endian (take (n + n) (drop at s))
little_endian_halves n s at {x} {y} h hx ex ey =
    add_comm x (y * 2 ^ (8 * n))
    ∙ sym (xor_shifted y (8 * n) x hx)
    ∙ xor_comm (y * 2 ^ (8 * n)) x
    ∙ ap₂ (λ (p q : ℕ). bit_xor p (q * 2 ^ (8 * n))) ex ey
    ∙ ap (λ (m : ℕ). bit_xor (little_endian (take n (drop at s))) (little_endian (take n (drop (at + n) s)) * 2 ^ (8 * m))) (sym (length_part n s at h))
    ∙ sym (little_endian-append (take n (drop at s)) (take n (drop (at + n) s)))
    ∙ ap little_endian (sym (take_twice n s at))

pub register-part : (n c : ℕ) (s : List ℕ) (at : ℕ) → at + n ≤ length s → register c (take n (drop at s)) ≡ bit_steps (8 * n) (bit_xor c (little_endian (take n (drop at s))))
register-part n c s at h =
    register-little_endian c (take n (drop at s))
    ∙ ap (λ (m : ℕ). bit_steps (8 * m) (bit_xor c (little_endian (take n (drop at s))))) (length_part n s at h)

-- eight bytes as four and four: only the first four are xored with the register
pub register_eight : (c : ℕ) (s : List ℕ) (at : ℕ) {x y r : ℕ} → at + 8 ≤ length s → x ≡ little_endian (take 4 (drop at s)) → y ≡ little_endian (take 4 (drop (at + 4) s))
    → r ≡ bit_xor (bit_steps 32 y) (bit_steps 64 (bit_xor c x)) → r ≡ register c (take 8 (drop at s))
register_eight c s at {x} {y} h ex ey g =
    g ∙ xor_comm (bit_steps 32 y) (bit_steps 64 (bit_xor c x))
    ∙ ap (λ (p : ℕ). bit_xor p (bit_steps 32 y)) (bit_steps-add 32 32 (bit_xor c x))
    ∙ sym (bit_steps_xor 32 (bit_steps 32 (bit_xor c x)) y)
    ∙ ap₂ (λ (p q : ℕ). bit_steps 32 (bit_xor p q)) (ap (λ (p : ℕ). bit_steps 32 (bit_xor c p)) ex ∙ sym (register-part 4 c s at (omega arith))) ey
    ∙ sym (register-part 4 (register c (take 4 (drop at s))) s (at + 4) (omega arith))
    ∙ sym (register-append c (take 4 (drop at s)) (take 4 (drop (at + 4) s)))
    ∙ ap (register c) (sym (take_twice 4 s at))

-- the steps of the bytes at a place: those of the first alone, and those of the bytes after it
left_byte : (n k : ℕ) (s : List ℕ) (at next : ℕ) → suc at ≡ next → at < length s
    → bit_steps (8 + n) (little_endian (take (suc k) (drop at s))) ≡ bit_xor (bit_steps (8 + n) (get_or s at 0)) (bit_steps n (little_endian (take k (drop next s))))
unfolding little_endian
left_byte n k s at next e h =
    ap (λ (l : List ℕ). bit_steps (8 + n) (little_endian (take (suc k) l))) (drop-cons s at 0 h)
    ∙ bit_steps_xor (8 + n) (get_or s at 0) (little_endian (take k (drop (suc at) s)) * 256)
    ∙ ap (bit_xor (bit_steps (8 + n) (get_or s at 0))) (
    bit_steps-add 8 n (little_endian (take k (drop (suc at) s)) * 256)
    ∙ ap (bit_steps n) (bit_steps_shift 8 (little_endian (take k (drop (suc at) s))))
    ∙ ap (λ (i : ℕ). bit_steps n (little_endian (take k (drop i s)))) e)

-- the steps of four bytes, from those of each
pub left-four : (s : List ℕ) (at : ℕ) {a b c d : ℕ} → at + 4 ≤ length s → a ≡ bit_steps 32 (get_or s at 0) → b ≡ bit_steps 24 (get_or s (at + 1) 0)
    → c ≡ bit_steps 16 (get_or s (at + 2) 0) → d ≡ bit_steps 8 (get_or s (at + 3) 0) → bit_xor (bit_xor (bit_xor a b) c) d ≡ bit_steps 32 (little_endian (take 4 (drop at s)))
unfolding little_endian bit_steps
left-four s at {a} {b} {c} {d} h ea eb ec ed =
    xor_assoc (bit_xor a b) c d
    ∙ xor_assoc a b (bit_xor c d)
    ∙ ap₂ bit_xor ea (ap₂ bit_xor eb (ap₂ bit_xor ec (ed ∙ sym (left_byte 0 0 s (at + 3) (at + 4) (omega arith) (omega arith) ∙ xor_zero_r (bit_steps 8 (get_or s (at + 3) 0))))
    ∙ sym (left_byte 8 1 s (at + 2) (at + 3) (omega arith) (omega arith)))
    ∙ sym (left_byte 16 2 s (at + 1) (at + 2) (omega arith) (omega arith)))
    ∙ sym (left_byte 24 3 s at (at + 1) (omega arith) (omega arith))

-- the number of n bytes is below 2 ^ (8 * n)
pub little_endian_lt : (n : ℕ) (s : List ℕ) → ((k : ℕ) → get_or s k 0 < 256) → little_endian (take n s) < 2 ^ (8 * n)
unfolding little_endian
little_endian_lt zero s h = zero-lt-suc 0
little_endian_lt (suc n) [] h = pow_pos (8 * suc n)
little_endian_lt (suc n) (b ∷ s) h =
    let e : 8 * n + 8 ≡ 8 * suc n = omega arith in
    xor_lt (8 * suc n) b (little_endian (take n s) * 256)
    (lt_of_lt_of_le (h 0) (pow_mono {i = 8} {j = 8 * suc n} (omega arith)))
    (subst (λ (k : ℕ). little_endian (take n s) * 256 < 2 ^ k) e (shl_lt (8 * n) 8 (little_endian_lt n s (λ k. h (suc k)))))
