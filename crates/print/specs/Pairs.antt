-- Bytes as they are printed: two hexadecimal digits each, in lower case.
-- To be believed. Assumes nothing.
use Rattle.std.specs.Prelude.{ℕ, false, List, [], ◌∷◌, ◌++◌, ◌/◌, ◌%◌}
use Rattle.std.specs.Fmt.{digit_glyph}

abbrev pub hex_pair : ℕ → List ℕ
hex_pair b = digit_glyph false (b / 16) ∷ digit_glyph false (b % 16) ∷ []

unfoldable pub hex_pairs : List ℕ → List ℕ
hex_pairs [] = []
hex_pairs (b ∷ bs) = hex_pair b ++ hex_pairs bs
