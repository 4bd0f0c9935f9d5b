-- Fixed fields, big-endian (FORMAT 2, 8.1, 19.1): a number's bytes, and the number that bytes encode.
-- To be believed. Assumes nothing.
use Rattle.std.specs.Prelude.{ℕ, ◌+◌, ◌*◌, ◌/◌, ◌%◌, ◌^◌, true, false, List, [], ◌∷◌, ◌++◌, leb, length, drop, get_or}

-- the four lowest bytes of x, the highest first
unfoldable pub be4 : ℕ → List ℕ
be4 x = x / 2 ^ 24 % 256 ∷ x / 2 ^ 16 % 256 ∷ x / 2 ^ 8 % 256 ∷ x % 256 ∷ []

-- the eight lowest bytes of x, the highest first
unfoldable pub be8 : ℕ → List ℕ
be8 x = be4 (x / 2 ^ 32) ++ be4 x

-- the number that the first two bytes encode
unfoldable pub read_be2 : List ℕ → ℕ
read_be2 s = get_or s 0 0 * 2 ^ 8 + get_or s 1 0

-- the number that the first four bytes encode
unfoldable pub read_be4 : List ℕ → ℕ
read_be4 s = get_or s 0 0 * 2 ^ 24 + get_or s 1 0 * 2 ^ 16 + get_or s 2 0 * 2 ^ 8 + get_or s 3 0

-- the number that the first eight bytes encode; 0 where there are fewer
unfoldable pub read_be8 : List ℕ → ℕ
read_be8 s = elim (leb 8 (length s)) [ true ↦ read_be4 s * 2 ^ 32 + read_be4 (drop 4 s) | false ↦ 0 ]

-- the number that the first four bytes encode; 0 where there are fewer
unfoldable pub whole_be4 : List ℕ → ℕ
whole_be4 s = elim (leb 4 (length s)) [ true ↦ read_be4 s | false ↦ 0 ]
