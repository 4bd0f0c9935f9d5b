-- Laws: three bytes before the data always change CRC-32C. A step of the register loses nothing, so
-- two sums of the same data are equal only if they began in the same state; and by working the
-- register back from its start state by three bytes, no three bytes lead from that state to itself.
use Rattle.std.specs.Prelude.{◌≡◌, refl, List, [], ◌∷◌, ℕ, zero, suc, ◌*◌, ◌/◌, ◌%◌, ◌<◌, length}
use Rattle.std.proofs.Common.{sym, ap, ◌∙◌, subst, arith}
use Rattle.std.specs.Int.Bits.{bit_xor, xor_self, xor_zero_r}
use Rattle.std.proofs.lemmas.Nat.{xor_lt}
use Rattle.crc32c_format.specs.Crc.{bit_step, bit_steps, register, crc32c}
use Rattle.crc32c_format.specs.Bytes.{little_endian}
use Rattle.crc32c_format.specs.Method.Xor.{xor_four, xor_twice, xor_back, xor_cancel}
use Rattle.crc32c_format.specs.Method.Steps.{bit_steps_xor, bit_steps_lt, register-append, register-little_endian}

-- ---- steps lose nothing

-- a bit step leads only from 0 to 0: where a 1 leaves, the polynomial's highest bit comes in
step_zero : (x : ℕ) → x < 4294967296 → bit_step x ≡ 0 → x ≡ 0
unfolding bit_step
step_zero x h e =
    let same : x % 2 * 0x82F63B78 ≡ x / 2 = xor_cancel (x % 2 * 0x82F63B78) (x / 2) e in
    omega arith

steps_zero : (n x : ℕ) → x < 4294967296 → bit_steps n x ≡ 0 → x ≡ 0
unfolding bit_steps
steps_zero zero x h e = e
steps_zero (suc n) x h e = step_zero x h (steps_zero n (bit_step x) (bit_steps_lt 1 x h) e)

steps_apart : (n a b : ℕ) → a < 4294967296 → b < 4294967296 → bit_steps n a ≡ bit_steps n b → a ≡ b
steps_apart n a b ha hb e =
    xor_cancel a b (steps_zero n (bit_xor a b) (xor_lt 32 a b ha hb)
    (bit_steps_xor n a b ∙ ap (λ (x : ℕ). bit_xor x (bit_steps n b)) e ∙ xor_self (bit_steps n b)))

-- the same data from two states
register-apart : (a b : ℕ) (d : List ℕ) → a < 4294967296 → b < 4294967296 → register a d ≡ register b d → a ≡ b
register-apart a b d ha hb e =
    let n = 8 * length d in
    let l = little_endian d in
    let x : bit_xor (bit_xor a l) (bit_xor b l) ≡ bit_xor a b = xor_four a l b l ∙ ap (bit_xor (bit_xor a b)) (xor_self l) ∙ xor_zero_r (bit_xor a b) in
    let s : bit_steps n (bit_xor a l) ≡ bit_steps n (bit_xor b l) = sym (register-little_endian a d) ∙ e ∙ register-little_endian b d in
    let z : bit_steps n (bit_xor a b) ≡ 0 =
    ap (bit_steps n) (sym x) ∙ bit_steps_xor n (bit_xor a l) (bit_xor b l) ∙ ap (λ (y : ℕ). bit_xor y (bit_steps n (bit_xor b l))) s ∙ xor_self (bit_steps n (bit_xor b l)) in
    xor_cancel a b (steps_zero n (bit_xor a b) (xor_lt 32 a b ha hb) z)

-- ---- three bytes move the start state

-- where bytes lead from state c to itself, and x steps to c in as many steps, x says which they are
bytes_back : (c x : ℕ) (bs : List ℕ) → c < 4294967296 → x < 4294967296 → little_endian bs < 4294967296
    → bit_steps (8 * length bs) x ≡ c → register c bs ≡ c → little_endian bs ≡ bit_xor c x
bytes_back c x bs hc hx hl ex e =
    let l = little_endian bs in
    let same : x ≡ bit_xor c l = steps_apart (8 * length bs) x (bit_xor c l) hx (xor_lt 32 c l hc hl) (ex ∙ sym e ∙ register-little_endian c bs) in
    sym (ap (bit_xor c) same ∙ xor_twice c l)

three_lt : (t h l : ℕ) → t < 256 → h < 256 → l < 256 → little_endian (t ∷ h ∷ l ∷ []) < 16777216
unfolding little_endian
three_lt t h l ht hh hl =
    let a = xor_lt 8 l (0 * 256) (omega arith) (omega arith) in
    let b = xor_lt 16 h (bit_xor l (0 * 256) * 256) (omega arith) (omega arith) in
    xor_lt 24 t (bit_xor h (bit_xor l (0 * 256) * 256) * 256) (omega arith) (omega arith)

-- the state that 24 steps lead to the start state
back : bit_steps 24 0x96DB52A8 ≡ 0xFFFFFFFF
unfolding bit_steps bit_step
back = refl

three_move : (c t h l : ℕ) → c ≡ 0xFFFFFFFF → t < 256 → h < 256 → l < 256 → register c (t ∷ h ∷ l ∷ []) ≡ c → ⊥
three_move c t h l ec ht hh hl e =
    let small = three_lt t h l ht hh hl in
    let found : little_endian (t ∷ h ∷ l ∷ []) ≡ bit_xor c 0x96DB52A8 =
    bytes_back c 0x96DB52A8 (t ∷ h ∷ l ∷ []) (omega arith) (omega arith) (omega arith) (back ∙ sym ec) e in
    let far : bit_xor c 0x96DB52A8 ≡ 0x6924AD57 = ap (λ (x : ℕ). bit_xor x 0x96DB52A8) ec in
    omega arith

-- ---- the checksums

-- with three bytes before it, no data has the checksum that it has alone
pub three_differ : (t h l : ℕ) (d : List ℕ) → t < 256 → h < 256 → l < 256 → crc32c d ≡ crc32c (t ∷ h ∷ l ∷ d) → ⊥
unfolding crc32c
three_differ t h l d ht hh hl e = go 0xFFFFFFFF refl e
  where
    go : (c : ℕ) → c ≡ 0xFFFFFFFF → bit_xor (register c d) c ≡ bit_xor (register c (t ∷ h ∷ l ∷ d)) c → ⊥
    go c ec e =
        let hdr : List ℕ = t ∷ h ∷ l ∷ [] in
        let same : register c d ≡ register c (t ∷ h ∷ l ∷ d) =
        sym (xor_back (register c d) c) ∙ ap (λ (x : ℕ). bit_xor x c) e ∙ xor_back (register c (t ∷ h ∷ l ∷ d)) c in
        let hc : c < 4294967296 = omega arith in
        let hl' : little_endian hdr < 4294967296 = omega (arith, three_lt t h l ht hh hl) in
        let moved : register c hdr < 4294967296 =
        subst (λ (x : ℕ). x < 4294967296) (sym (register-little_endian c hdr)) (bit_steps_lt 24 (bit_xor c (little_endian hdr)) (xor_lt 32 c (little_endian hdr) hc hl')) in
        three_move c t h l ec ht hh hl (sym (register-apart c (register c hdr) d hc moved (same ∙ register-append c hdr d)))
