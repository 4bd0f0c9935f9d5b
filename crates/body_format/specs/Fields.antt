-- FORMAT 8: the fields of a body, each read at its place. A fault is at the field's first byte
-- (FORMAT 8.5).
-- To be believed. Assumes nothing.
use Rattle.std.specs.Prelude.{cond, List, [], ◌∷◌, ℕ, zero, suc, ◌+◌, ◌*◌, ℤ, length, take, drop, ltb}
use Rattle.wal_types.specs.declared.Refusal.{Refusal}
use Rattle.wal_types.specs.declared.Refusal.TheVariants.{Short, BadVarint}
use Rattle.wal_types.specs.Terms.{offset}
use Rattle.uvarint.specs.Results.UvarintRead.{UvarintRead}
use Rattle.uvarint.specs.Results.UvarintRead as u
use Rattle.varint.specs.Results.VarintRead.{VarintRead}
use Rattle.varint.specs.Results.VarintRead as v
use Rattle.uvarint.specs.Uvarint.{read_uvarint}
use Rattle.varint.specs.Varint.{read_varint}
use Rattle.big_endian.specs.Fixed.{read_be8}

-- what reading at a place finds: a value and the place after it, or a fault
pub data Field (A : Type 0) : Type 0 where
  got : A → ℕ → Field A
  fault : Refusal → Field A

-- one field and then the next; the first fault from the left decides
abbrev pub and_then : {A B : Type 0} → Field A → (A → ℕ → Field B) → Field B
and_then (got a p) next = next a p
and_then (fault why) next = fault why

-- a single byte
abbrev pub byte_of : ℕ → List ℕ → Field ℕ
byte_of p [] = fault (Short (offset p))
byte_of p (b ∷ s) = got b (p + 1)

unfoldable pub byte_at : List ℕ → ℕ → Field ℕ
byte_at s p = byte_of p (drop p s)

-- 8 bytes, big-endian
unfoldable pub fixed_at : List ℕ → ℕ → Field ℕ
fixed_at s p = cond (ltb (length (drop p s)) 8) (fault (Short (offset p))) (got (read_be8 (drop p s)) (p + 8))

-- a uvarint and a signed varint
abbrev pub uvarint_of : ℕ → UvarintRead → Field ℕ
uvarint_of p (u.Value n len) = got n (p + len)
uvarint_of p u.Short = fault (Short (offset p))
uvarint_of p u.BadVarint = fault (BadVarint (offset p))

unfoldable pub uvarint_at : List ℕ → ℕ → Field ℕ
uvarint_at s p = uvarint_of p (read_uvarint (drop p s))

abbrev pub varint_of : ℕ → VarintRead → Field ℤ
varint_of p (v.Value x len) = got x (p + len)
varint_of p v.Short = fault (Short (offset p))
varint_of p v.BadVarint = fault (BadVarint (offset p))

unfoldable pub varint_at : List ℕ → ℕ → Field ℤ
varint_at s p = varint_of p (read_varint (drop p s))

-- a string: where its bytes start, and the bytes
pub record StringField : Type 0 where
  pub start : ℕ
  pub bytes : List ℕ

-- a string with its length is one field (FORMAT 8.4): any fault is at the length's first byte
unfoldable pub string_at : List ℕ → ℕ → Field StringField
string_at s p =
    and_then (uvarint_at s p) (λ n q.
    cond (ltb (length (drop q s)) n) (fault (Short (offset p)))
    (got (record { start = q; bytes = take n (drop q s) }) (q + n)))

-- k strings in a row
unfoldable pub strings_at : ℕ → List ℕ → ℕ → Field (List (List ℕ))
strings_at zero s p = got [] p
strings_at (suc k) s p = and_then (string_at s p) (λ t q. and_then (strings_at k s q) (λ ts r. got (t.bytes ∷ ts) r))

-- a list of strings: where the first begins, and the strings
pub record StringList : Type 0 where
  pub first : ℕ
  pub strings : List (List ℕ)

-- a count n (uvarint), and then 2n strings (FORMAT 9.2)
unfoldable pub string_list_at : List ℕ → ℕ → Field StringList
string_list_at s p =
    and_then (uvarint_at s p) (λ n q.
    and_then (strings_at (2 * n) s q) (λ ts r. got (record { first = q; strings = ts }) r))
