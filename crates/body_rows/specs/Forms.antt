-- Forms that the private functions return: a row by its deltas, with its labels, and where it is.
-- Assumes nothing.
use Rattle.std.specs.Prelude.{◌≡◌, Bool, cond, ◌&&◌, List, ℕ, ◌+◌, ◌-◌, eqb, leb, ltb, pos, length, get_or, drop}
use Rattle.wal_types.specs.declared.SeriesId.{SeriesId}
use Rattle.wal_types.specs.declared.Timestamp.{Timestamp}
use Rattle.wal_types.specs.Terms.{offset, series_id, timestamp}
use Rattle.wal_types.specs.Deltas.{plus, to_bits, int_from_bits}
use Rattle.varint.specs.Varint.{unzigzag}
use Rattle.big_endian.specs.Fixed.{read_be8}
use Rattle.body_format.specs.Results.EntryAnswer.{EntryAnswer}
use Rattle.body_format.specs.Results.EntryAnswer.{Found, Refused}
use Rattle.body_format.specs.Fields.{Field, got, fault}
use Rattle.body_format.specs.Entries.{Row}
use Rattle.body_fields.specs.Results.StringListRead.{StringListRead}
use Rattle.body_fields.specs.Results.StringListRead as list
use Rattle.body_rows.specs.Results.RowRead.{RowRead}
use Rattle.body_rows.specs.Results.RowRead as row

-- the first id and the first timestamp are those in bytes 1 to 16
pub record BaseIn (s : List ℕ) (id : SeriesId) (time : Timestamp) : Type 0 where
  pub same_id : id.0 ≡ read_be8 (drop 1 s)
  pub same-time : to_bits time.0 ≡ read_be8 (drop 9 s)

abbrev pub row_read : Field Row → RowRead
row_read (got r next) = row.Got (series_id r.id) (timestamp r.time) r.bits next
row_read (fault why) = row.Fault why

-- a row whose deltas have the zigzags d and e
abbrev pub row_got : SeriesId → Timestamp → ℕ → ℕ → ℕ → ℕ → RowRead
row_got id time d e bits next =
    row.Got (series_id (plus id.0 (to_bits (unzigzag d)))) (timestamp (int_from_bits (plus (to_bits time.0) (to_bits (unzigzag e))))) bits next

-- ten bytes, of which the first two are one delta each
unfoldable pub is_short_row : List ℕ → ℕ → Bool
is_short_row s p = leb 10 (length s - p) && (ltb (get_or s p 0) 128 && ltb (get_or s (p + 1) 0) 128)

-- an exemplar: a row, and the list of its labels
abbrev pub exemplar_of : SeriesId → Timestamp → ℕ → StringListRead → EntryAnswer
exemplar_of id time bits (list.Got n first next) = Found (record {
  tag = 4;
  id = id;
  time = time;
  max = timestamp (pos 0);
  bits = bits;
  strings = n;
  first = offset first;
  next = offset next;
})
exemplar_of id time bits (list.Fault why) = Refused why

-- where the row of place p is: place 1 is the first row's
abbrev pub row_place : ℕ → ℕ
row_place p = cond (eqb p 1) 17 p
