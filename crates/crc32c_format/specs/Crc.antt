-- Definition: CRC-32C (Castagnoli), bit by bit, as FORMAT 3 and RFC 3720 give it. The register and
-- the polynomial are reflected: bit 0 leaves first.
-- To be believed. Assumes nothing.
use Rattle.std.specs.Prelude.{List, [], ◌∷◌, ℕ, zero, suc, ◌*◌, ◌/◌, ◌%◌}
use Rattle.std.specs.Int.Bits.{bit_xor}

-- one bit step: shift right; where the bit that leaves is 1, xor with the reflected polynomial
unfoldable pub bit_step : ℕ → ℕ
bit_step c = bit_xor (c % 2 * 0x82F63B78) (c / 2)

-- n bit steps
unfoldable pub bit_steps : ℕ → ℕ → ℕ
bit_steps zero c = c
bit_steps (suc n) c = bit_steps n (bit_step c)

-- the register after the bytes of a list: each is xored into the low byte, then eight bit steps
unfoldable pub register : ℕ → List ℕ → ℕ
register c [] = c
register c (b ∷ bs) = register (bit_steps 8 (bit_xor c b)) bs

-- the checksum: the register starts with all ones, and is inverted at the end
unfoldable pub crc32c : List ℕ → ℕ
crc32c bs = bit_xor (register 0xFFFFFFFF bs) 0xFFFFFFFF
