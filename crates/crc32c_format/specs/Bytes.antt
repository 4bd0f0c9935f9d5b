-- Definition: a list of bytes as a number, the first byte lowest. No two bytes have a bit in
-- common, so xor joins them as a sum does.
-- To be believed. Assumes nothing.
use Rattle.std.specs.Prelude.{List, [], ◌∷◌, ℕ, ◌*◌}
use Rattle.std.specs.Int.Bits.{bit_xor}

unfoldable pub little_endian : List ℕ → ℕ
little_endian [] = 0
little_endian (b ∷ bs) = bit_xor b (little_endian bs * 256)
