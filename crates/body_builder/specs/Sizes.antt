-- What decides an addition, by numbers: `add` of body_format with a size in place of the entry's
-- bytes. Also the sizes of entries.
-- Assumes nothing.
use Rattle.std.specs.Prelude.{Bool, true, false, cond, not, List, [], ◌∷◌, ◌++◌, ℕ, ◌+◌, ◌/◌, ℤ, ltb, eqb, length, drop}
use Rattle.wal_types.specs.declared.Refusal.TheVariants.{BadPlace, TooLong, NoRoom, BadList, WrongKind}
use Rattle.wal_types.specs.Terms.{offset}
use Rattle.wal_types.specs.Sizes.{record_limit}
use Rattle.wal_types.specs.Deltas.{minus, int_from_bits}
use Rattle.uvarint.specs.Uvarint.{uvarint}
use Rattle.varint.specs.Varint.{zigzag, varint}
use Rattle.big_endian.specs.Fixed.{be8, read_be8}
use Rattle.body_format.specs.Entries.{Known, known, unknown}
use Rattle.body_format.specs.Building.{Outcome, used, refused, bad_state}
use Rattle.body_builder.specs.Results.Gate.{Gate}
use Rattle.body_builder.specs.Results.Gate.{Open, Shut}
use Rattle.body_builder.specs.declared.admission.Deltas.{Deltas}

-- whether a byte is the tag of a type
abbrev pub is_known : Known → Bool
is_known (known k) = true
is_known unknown = false

abbrev pub gate_for : Outcome → Gate
gate_for (used n) = Open
gate_for (refused why) = Shut why

-- an entry of n bytes that belongs in a body of tag `want`, in the order of FORMAT 10.5: `decided`
-- tests for BadPlace, WrongKind and BadList, then `fitting` for TooLong and NoRoom
abbrev pub fitting : List ℕ → ℕ → ℕ → Outcome
fitting b u n =
    cond (ltb record_limit (u + n)) (refused (TooLong (offset u)))
    (cond (ltb (length b) (u + n)) (refused (NoRoom (offset u)))
    (used (u + n)))

unfoldable pub decided : List ℕ → ℕ → ℕ → ℕ → Bool → ℕ → Outcome
decided b t u want bad n =
    cond (bad_state b t u) (refused BadPlace)
    (cond (not (eqb t want)) (refused WrongKind)
    (cond bad (refused BadList)
    (fitting b u n)))

-- ---- rows

-- a row's deltas to the first id and the first timestamp in buffer b; the first row's, after one
-- byte used, are 0
abbrev pub deltas_in : List ℕ → ℕ → ℕ → ℕ → Deltas
deltas_in b u id time =
    cond (eqb u 1) (record { id = 0; time = 0 })
    (record { id = minus id (read_be8 (drop 1 b)); time = minus time (read_be8 (drop 9 b)) })

-- their zigzags
abbrev pub zigzags_of : Deltas → Deltas
zigzags_of d = record { id = zigzag (int_from_bits d.id); time = zigzag (int_from_bits d.time) }

-- two deltas by their zigzags, and the value
unfoldable pub row_tail : ℕ → ℕ → ℕ → List ℕ
row_tail d e v = uvarint d ++ (uvarint e ++ be8 v)

-- the first row also has the first id and timestamp, eight bytes each, and its deltas have one byte
abbrev pub row_size : ℕ → ℕ → ℕ → ℕ
row_size u d e = cond (eqb u 1) 26 (length (uvarint d) + length (uvarint e) + 8)

-- ---- other entries

abbrev pub tombstone_size : ℤ → ℤ → ℕ
tombstone_size min max = 8 + (length (varint min) + length (varint max))

-- the bytes that the lengths of strings take
unfoldable pub heads : List ℕ → ℕ
heads [] = 0
heads (n ∷ lengths) = length (uvarint n) + heads lengths

-- the bytes that a list takes: its count, the lengths and the strings' n bytes; one number above
-- 65,536 for every list of more strings or bytes than that
unfoldable pub list_size : ℕ → List ℕ → ℕ
list_size n lengths =
    cond (ltb record_limit (length lengths)) (record_limit + 1)
    (cond (ltb record_limit n) (record_limit + 1)
    (length (uvarint (length lengths / 2)) + heads lengths + n))
