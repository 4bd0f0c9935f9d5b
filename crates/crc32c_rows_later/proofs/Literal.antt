-- Made by tools/rows, which says how and why; the gate makes it anew and compares.
-- An entry of a byte that is known by its number.
use Rattle.std.proofs.Common.{ℕ, ◌≡◌, subst, sym}
use Rattle.std.specs.Int.Bits.{bit_xor}
use Rattle.crc32c_format.specs.Crc.{bit_steps}

pub at : (s n k v : ℕ) → n ≡ k → v ≡ bit_steps s (bit_xor k 128) → v ≡ bit_steps s (bit_xor n 128)
at s n k v h e = subst (λ (x : ℕ). v ≡ bit_steps s (bit_xor x 128)) (sym h) e
