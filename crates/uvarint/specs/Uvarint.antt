-- Defines the uvarint of a number (FORMAT 8.2), and what decoding one at the front of bytes finds.
-- To be believed. Assumes nothing.
use Rattle.std.specs.Prelude.{ℕ, zero, suc, ◌+◌, ◌*◌, ◌/◌, ◌%◌, true, false, List, [], ◌∷◌, ltb, leb}
use Rattle.uvarint.specs.Results.UvarintRead.{UvarintRead}
use Rattle.uvarint.specs.Results.UvarintRead.{Value, Short, BadVarint}

-- seven bits a byte, lowest group first: a number below 128 is its own last byte; a larger one
-- gives its lowest seven bits, marked by 128, and then the groups of the rest. `steps` only makes
-- the recursion end.
unfoldable pub groups : ℕ → ℕ → List ℕ
groups zero n = n ∷ []
groups (suc steps) n = elim (ltb n 128) [ true ↦ n ∷ [] | false ↦ (n % 128 + 128) ∷ groups steps (n / 128) ]

-- n steps are enough for n, since n / 128 is less than n: `one_group` and `more_groups`
-- (UvarintLaws.antt) say the recursion without steps
unfoldable pub uvarint : ℕ → List ℕ
uvarint n = groups n n

-- seven bits before what the bytes after them encode
unfoldable pub after : ℕ → UvarintRead → UvarintRead
after low (Value n len) = Value (low + 128 * n) (len + 1)
after low Short = Short
after low BadVarint = BadVarint

-- a byte below 128 is the last; after `more` marked bytes the next is the tenth, which must be 0 or
-- 1. An encoding longer than needed is accepted: a last byte may be 0.
unfoldable pub read_groups : ℕ → List ℕ → UvarintRead
read_groups more [] = Short
read_groups zero (b ∷ s) = elim (leb b 1) [ true ↦ Value b 1 | false ↦ BadVarint ]
read_groups (suc more) (b ∷ s) = elim (ltb b 128) [ true ↦ Value b 1 | false ↦ after (b % 128) (read_groups more s) ]

-- at most nine marked bytes, and then the tenth
unfoldable pub read_uvarint : List ℕ → UvarintRead
read_uvarint s = read_groups 9 s
