-- Examples: the empty input, two of RFC 3720's vectors (appendix B.4), and the usual check value.
-- The program `test_vectors` runs all of RFC 3720's.
use Rattle.std.specs.Prelude.{◌≡◌, refl, [], ◌∷◌, replicate}
use Rattle.crc32c_format.specs.Crc.{bit_step, bit_steps, register, crc32c}

none : crc32c [] ≡ 0
unfolding bit_step bit_steps register crc32c
none = refl

-- the characters 1 to 9
digits : crc32c (49 ∷ 50 ∷ 51 ∷ 52 ∷ 53 ∷ 54 ∷ 55 ∷ 56 ∷ 57 ∷ []) ≡ 0xE3069283
unfolding bit_step bit_steps register crc32c
digits = refl

zeros : crc32c (replicate 32 0) ≡ 0x8A9136AA
unfolding bit_step bit_steps register crc32c
zeros = refl

ones : crc32c (replicate 32 255) ≡ 0x62A8AB43
unfolding bit_step bit_steps register crc32c
ones = refl
