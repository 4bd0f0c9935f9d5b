-- Laws of entries: the bytes of an entry at a place of a body read back there as that entry.
-- Assumes nothing.
use Rattle.std.proofs.Common.{◌≡◌, refl, true, ℤ, List, [], ◌∷◌, ◌++◌, ℕ, ◌+◌, ◌/◌, ◌%◌, ◌^◌, ◌<◌, length, ◌∙◌, arith, length-append}
use Rattle.std.specs.Int.Signed.{mag}
use Rattle.wal_types.specs.Deltas.{to_bits}
use Rattle.uvarint.specs.Uvarint.{uvarint}
use Rattle.varint.specs.Varint.{varint}
use Rattle.big_endian.specs.Fixed.{be8}
use Rattle.body_format.specs.Fields.{got}
use Rattle.body_format.specs.Heads.{head_bytes}
use Rattle.body_format.specs.Histograms.{histogram_bytes}
use Rattle.body_format.specs.Entries.{has_rows, Entry, series_entry, sample_entry, tombstone_entry, exemplar_entry, metadata_entry, histogram_entry, body_type_for, row_at, series_at, sample_at, tombstone_at, exemplar_at, metadata_at, histogram_entry_at, entry_at}
use Rattle.body_format.specs.Building.{string_list_bytes, row_bytes, entry_bytes}
use Rattle.body_format.proofs.Laws.Fields.{place_same, Stands, stands-left, stands_right, read_byte, read_fixed, read-uvarint-at, read-varint-at, read-list}
use Rattle.body_format.proofs.Laws.Heads.{Firsts, read_head}
use Rattle.body_format.proofs.Laws.Histograms.{HistogramFits, read-histogram}

-- an entry's numbers have 64 bits, and its strings come in pairs
abbrev pub Fits : Entry → Type 0
Fits (series_entry id ts) = (id < 2 ^ 64) × (length ts % 2 ≡ 0)
Fits (sample_entry id time v) = (id < 2 ^ 64) × (mag time < 2 ^ 63) × (v < 2 ^ 64)
Fits (tombstone_entry id min max) = (id < 2 ^ 64) × (mag min < 2 ^ 63) × (mag max < 2 ^ 63)
Fits (exemplar_entry id time v ts) = (id < 2 ^ 64) × (mag time < 2 ^ 63) × (v < 2 ^ 64) × (length ts % 2 ≡ 0)
Fits (metadata_entry id metric ts) = (id < 2 ^ 64) × (length ts % 2 ≡ 0)
Fits (histogram_entry k h) = HistogramFits k h

module _ (b : List ℕ) (used : ℕ) (s : List ℕ) (p : ℕ) where
  -- a row: its head, and its value
  pub read-row : (id : ℕ) (time : ℤ) (v : ℕ) → id < 2 ^ 64 → mag time < 2 ^ 63 → v < 2 ^ 64 → Firsts b used s
      → Stands s p (row_bytes b used id (to_bits time) v)
      → row_at s p ≡ got (record { id = id; time = time; bits = v }) (p + length (row_bytes b used id (to_bits time) v))
  unfolding row_at row_bytes
  read-row id time v hi ht hv f st =
      let h : List ℕ = head_bytes b used id (to_bits time) in
      rw (
        read_head b used s p id time hi ht f (stands-left s p h (be8 v) st),
        read_fixed s (p + length h) v hv (stands_right s p h (be8 v) st),
      )
      (place_same (omega (arith, length-append h (be8 v))))

  -- an entry of any type, and some place where its strings begin
  pub read-entry : (e : Entry) → Fits e → length (entry_bytes b used e) < 2 ^ 64 → (has_rows (body_type_for e) ≡ true → Firsts b used s)
      → Stands s p (entry_bytes b used e)
      → (first : ℕ) × (entry_at (body_type_for e) s p ≡ got (record { entry = e; first = first }) (p + length (entry_bytes b used e)))
  unfolding entry_bytes series_at sample_at tombstone_at exemplar_at metadata_at histogram_entry_at
  read-entry (series_entry id ts) (hi, even) h rows st =
      let l : length (be8 id ++ string_list_bytes ts) ≡ length (be8 id) + length (string_list_bytes ts) = length-append (be8 id) (string_list_bytes ts) in (
        p + length (be8 id) + length (uvarint (length ts / 2)),
        rw (
          read_fixed s p id hi (stands-left s p (be8 id) (string_list_bytes ts) st),
          read-list s (p + length (be8 id)) ts (omega arith) even (stands_right s p (be8 id) (string_list_bytes ts) st),
        )
            (place_same (omega arith)),
      )
  read-entry (sample_entry id time v) (hi, ht, hv) h rows st =
      (p + length (row_bytes b used id (to_bits time) v), rw (read-row id time v hi ht hv (rows refl) st))
  read-entry (tombstone_entry id min max) (hi, hl, hm) h rows st =
      let next : Stands s (p + length (be8 id)) (varint min ++ varint max) = stands_right s p (be8 id) (varint min ++ varint max) st in (
        p + length (be8 id) + length (varint min) + length (varint max),
        rw (
          read_fixed s p id hi (stands-left s p (be8 id) (varint min ++ varint max) st),
          read-varint-at s (p + length (be8 id)) min hl (stands-left s (p + length (be8 id)) (varint min) (varint max) next),
          read-varint-at s (p + length (be8 id) + length (varint min)) max hm (stands_right s (p + length (be8 id)) (varint min) (varint max) next),
        )
            (place_same (omega (arith, length-append (be8 id) (varint min ++ varint max), length-append (varint min) (varint max)))),
      )
  read-entry (exemplar_entry id time v ts) (hi, ht, hv, even) h rows st =
      let row : List ℕ = row_bytes b used id (to_bits time) v in
      let l : length (row ++ string_list_bytes ts) ≡ length row + length (string_list_bytes ts) = length-append row (string_list_bytes ts) in (
        p + length row + length (uvarint (length ts / 2)),
        rw (
          read-row id time v hi ht hv (rows refl) (stands-left s p row (string_list_bytes ts) st),
          read-list s (p + length row) ts (omega arith) even (stands_right s p row (string_list_bytes ts) st),
        )
            (place_same (omega arith)),
      )
  read-entry (metadata_entry id metric ts) (hi, even) h rows st =
      let next : Stands s (p + length (uvarint id)) (metric ∷ string_list_bytes ts) = stands_right s p (uvarint id) (metric ∷ string_list_bytes ts) st in
      let l : length (uvarint id ++ (metric ∷ string_list_bytes ts)) ≡ length (uvarint id) + (1 + length (string_list_bytes ts)) =
      length-append (uvarint id) (metric ∷ string_list_bytes ts) ∙ omega arith in (
        p + length (uvarint id) + 1 + length (uvarint (length ts / 2)),
        rw (
          read-uvarint-at s p id hi (stands-left s p (uvarint id) (metric ∷ string_list_bytes ts) st),
          read_byte s (p + length (uvarint id)) metric (stands-left s (p + length (uvarint id)) (metric ∷ []) (string_list_bytes ts) next),
          read-list s (p + length (uvarint id) + 1) ts (omega arith) even
              (stands_right s (p + length (uvarint id)) (metric ∷ []) (string_list_bytes ts) next),
        )
            (place_same (omega arith)),
      )
  read-entry (histogram_entry k e) fits h rows st =
      (p + length (histogram_bytes b used k e), rw (read-histogram b used s p k e fits h (rows refl) st).1)
