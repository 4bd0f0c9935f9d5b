-- Rows of ten bytes: how they are recognized, and what they read as.
use Rattle.std.proofs.Common.{◌≡◌, true, false, List, ℕ, ◌+◌, ◌-◌, ◌≤◌, ◌<◌, ltb, length, get_or, drop, arith, lt-ltb, le-ltb, le-leb}
use borrow.Author.Tests.{lt-leb}
use Rattle.big_endian.specs.Fixed.{read_be8}
use Rattle.wal_types.specs.declared.SeriesId.{SeriesId}
use Rattle.wal_types.specs.declared.Timestamp.{Timestamp}
use Rattle.body_format.specs.Heads.{head_at}
use Rattle.body_format.proofs.Laws.Heads.{delta_got}
use Rattle.body_format.specs.Entries.{row_at}
use Rattle.body_fields.specs.Results.Place.{At}
use Rattle.body_fields.specs.Ends.{end_of}
use Rattle.body_rows.specs.Results.RowRead.{RowRead}
use Rattle.body_rows.specs.Forms.{is_short_row, BaseIn, row_got, row_read}
use Rattle.body_rows.specs.Short.{short-id, short-time, short-bits}
use Rattle.body_rows.proofs.Reading.{row-all}

module _ (s : List ℕ) (p : ℕ) where
  pub too_few_lem : length s < p + 10 → false ≡ is_short_row s p
  unfolding is_short_row
  too_few_lem h = rw (lt-leb 10 (length s - p) (omega arith), is_short_row)

  pub first-long : p + 10 ≤ length s → 128 ≤ get_or s p 0 → false ≡ is_short_row s p
  unfolding is_short_row
  first-long h a = rw (le-leb 10 (length s - p) (omega arith), is_short_row, le-ltb (get_or s p 0) 128 a)

  pub by-second : p + 10 ≤ length s → get_or s p 0 < 128 → ltb (get_or s (p + 1) 0) 128 ≡ is_short_row s p
  unfolding is_short_row
  by-second h a = rw (le-leb 10 (length s - p) (omega arith), is_short_row, lt-ltb (get_or s p 0) 128 a)

module _ (s : List ℕ) (p : ℕ) (e : is_short_row s p ≡ true) where
  pub short-end : At (p + 10) ≡ end_of (row_at s p)
  unfolding row_at head_at
  short-end = rw (delta_got s p _ _ (short-id s p e), delta_got s (p + 1) _ _ (short-time s p e), short-bits s p e)

  pub short-read : {bits : ℕ} {id : SeriesId} {time : Timestamp} {found : RowRead}
      → found ≡ row_got id time (get_or s p 0) (get_or s (p + 1) 0) bits (p + 10)
      → bits ≡ read_be8 (drop (p + 2) s) → BaseIn s id time → found ≡ row_read (row_at s p)
  short-read g v b = row-all s p (rw v at g) (short-id s p e) (short-time s p e) (short-bits s p e) b
