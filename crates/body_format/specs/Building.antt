-- FORMAT 10: starting a body, and adding an entry to it.
-- To be believed. Assumes nothing.
use Rattle.std.specs.Prelude.{Bool, cond, ◌||◌, ◌&&◌, not, List, [], ◌∷◌, ◌++◌, ℕ, ◌+◌, ◌/◌, ◌%◌, length, get_or, take, drop, ltb, leb, eqb}
use Rattle.std.proofs.lemmas.List.Edits.{sets}
use Rattle.wal_types.specs.declared.Refusal.{Refusal}
use Rattle.wal_types.specs.declared.Refusal.TheVariants.{BadPlace, TooLong, NoRoom, UnknownType, BadList, WrongKind}
use Rattle.wal_types.specs.Terms.{offset}
use Rattle.wal_types.specs.Sizes.{record_limit}
use Rattle.wal_types.specs.Deltas.{to_bits}
use Rattle.uvarint.specs.Uvarint.{uvarint}
use Rattle.varint.specs.Varint.{varint}
use Rattle.big_endian.specs.Fixed.{be8}
use Rattle.body_format.specs.Heads.{head_bytes}
use Rattle.body_format.specs.Histograms.{histogram_bytes}
use Rattle.body_format.specs.Entries.{type_byte, Known, known, unknown, body_type_of, rows_known, Entry, series_entry, sample_entry, tombstone_entry, exemplar_entry, metadata_entry, histogram_entry, body_type_for}

-- ---- the bytes of an entry

-- a string: its length (uvarint), and its bytes (FORMAT 8.4)
unfoldable pub string_bytes : List ℕ → List ℕ
string_bytes t = uvarint (length t) ++ t

unfoldable pub strings_bytes : List (List ℕ) → List ℕ
strings_bytes [] = []
strings_bytes (t ∷ ts) = string_bytes t ++ strings_bytes ts

-- a list of strings: half their number (uvarint), and the strings (FORMAT 10.3)
unfoldable pub string_list_bytes : List (List ℕ) → List ℕ
string_list_bytes ts = uvarint (length ts / 2) ++ strings_bytes ts

-- the row of id, time (its 64 bits) and value: its head, and the value (FORMAT 10.4)
unfoldable pub row_bytes : List ℕ → ℕ → ℕ → ℕ → ℕ → List ℕ
row_bytes b used id time v = head_bytes b used id time ++ be8 v

-- the bytes of an entry, written after the `used` bytes of the body in buffer b
unfoldable pub entry_bytes : List ℕ → ℕ → Entry → List ℕ
entry_bytes b used (series_entry id ts) = be8 id ++ string_list_bytes ts
entry_bytes b used (sample_entry id time v) = row_bytes b used id (to_bits time) v
entry_bytes b used (tombstone_entry id min max) = be8 id ++ (varint min ++ varint max)
entry_bytes b used (exemplar_entry id time v ts) = row_bytes b used id (to_bits time) v ++ string_list_bytes ts
entry_bytes b used (metadata_entry id metric ts) = uvarint id ++ (metric ∷ string_list_bytes ts)
entry_bytes b used (histogram_entry k h) = histogram_bytes b used k h

-- ---- strings as the caller gives them: one slice of bytes, and one of lengths

-- the strings: each takes its length from the front of what is left
unfoldable pub cut_strings : List ℕ → List ℕ → List (List ℕ)
cut_strings bytes [] = []
cut_strings bytes (n ∷ lengths) = take n bytes ∷ cut_strings (drop n bytes) lengths

unfoldable pub total : List ℕ → ℕ
total [] = 0
total (n ∷ lengths) = n + total lengths

-- BadList (FORMAT 10.5): an odd number of strings, or lengths that do not add up to the slice
unfoldable pub bad_list : List ℕ → List ℕ → Bool
bad_list bytes lengths = eqb (length lengths % 2) 1 || not (eqb (total lengths) (length bytes))

-- ---- starting and adding

-- the outcome of starting or adding: the bytes of the body that are then used, or a refusal
pub data Outcome : Type 0 where
  used : ℕ → Outcome
  refused : Refusal → Outcome

-- starting a body of tag t in a buffer b (FORMAT 10.2): UnknownType, NoRoom
abbrev pub start_known : Known → List ℕ → Outcome
start_known (known k) b = cond (eqb (length b) 0) (refused (NoRoom (offset 0))) (used 1)
start_known unknown b = refused UnknownType

unfoldable pub start : List ℕ → ℕ → Outcome
start b t = start_known (body_type_of t) b

-- the buffer afterwards: the tag is its first byte; a refusal changes no byte
abbrev pub start_bytes : Outcome → List ℕ → ℕ → List ℕ
start_bytes (used n) b t = sets b 0 (t ∷ [])
start_bytes (refused why) b t = b

-- A state is the tag t and the u bytes used. BadPlace (FORMAT 10.5): u is 0, or more than the
-- buffer has, or 2 to 16 for a type with rows, or the buffer's first byte is not t.
unfoldable pub bad_state : List ℕ → ℕ → ℕ → Bool
bad_state b t u =
    eqb u 0 || (ltb (length b) u || ((rows_known (body_type_of t) && (leb 2 u && leb u 16)) || not (eqb (get_or b 0 0) t)))

-- adding an entry to the state (t, u) of a body in buffer b, where `bad` says whether a list of it
-- is bad. In this order (FORMAT 10.5): BadPlace, WrongKind, BadList, TooLong, NoRoom.
unfoldable pub add : List ℕ → ℕ → ℕ → Entry → Bool → Outcome
add b t u e bad =
    cond (bad_state b t u) (refused BadPlace)
    (cond (not (eqb t (type_byte (body_type_for e)))) (refused WrongKind)
    (cond bad (refused BadList)
    (cond (ltb record_limit (u + length (entry_bytes b u e))) (refused (TooLong (offset u)))
    (cond (ltb (length b) (u + length (entry_bytes b u e))) (refused (NoRoom (offset u)))
    (used (u + length (entry_bytes b u e)))))))

-- the buffer afterwards: the entry's bytes from the old place on; a refusal changes no byte
abbrev pub add_bytes : Outcome → List ℕ → ℕ → Entry → List ℕ
add_bytes (used n) b u e = sets b u (entry_bytes b u e)
add_bytes (refused why) b u e = b
