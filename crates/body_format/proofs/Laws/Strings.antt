-- Laws of strings as the caller gives them, one slice of bytes and one of lengths, and of how many
-- bytes an entry takes.
-- Assumes nothing.
use Rattle.std.proofs.Common.{◌≡◌, Bool, true, false, ◌||◌, not, ℕ, suc, ◌+◌, ◌%◌, ◌≤◌, ◌<◌, ℤ, length, get_or, take, drop, eqb, refl, List, [], ◌∷◌, ◌++◌, ap, ◌∙◌, add-one, arith, eq-eqb, drop-cons, drop-drop, length-take-le, append_assoc, length-append}
use Rattle.std.proofs.lemmas.Bool.{eqb-false}
use Rattle.wal_types.specs.Deltas.{minus, to_bits}
use Rattle.uvarint.specs.Uvarint.{uvarint}
use Rattle.varint.specs.Varint.{varint}
use Rattle.big_endian.specs.Fixed.{be8, read_be8}
use Rattle.big_endian.specs.FixedLaws.{length-be8}
use Rattle.body_format.specs.Entries.{series_entry, sample_entry, tombstone_entry, exemplar_entry, metadata_entry}
use Rattle.body_format.specs.Heads.{delta_bytes}
use Rattle.body_format.specs.Building.{strings_bytes, string_list_bytes, row_bytes, entry_bytes, cut_strings, total, bad_list}
use Rattle.body_format.proofs.Laws.Fields.{length-strings}
use Rattle.body_format.proofs.Laws.Heads.{length_delta_0, head_first, head-later}

-- ---- one slice of bytes, and one of lengths

-- as many strings as lengths
pub length_cut : (bytes lengths : List ℕ) → length (cut_strings bytes lengths) ≡ length lengths
unfolding cut_strings
length_cut bytes [] = refl
length_cut bytes (n ∷ lengths) = ap suc (length_cut (drop n bytes) lengths)

-- string i, whose bytes start at `at`, and those after it
pub cut_step : (bytes lengths : List ℕ) (at i : ℕ) → i < length lengths
    → cut_strings (drop at bytes) (drop i lengths)
    ≡ take (get_or lengths i 0) (drop at bytes) ∷ cut_strings (drop (at + get_or lengths i 0) bytes) (drop (i + 1) lengths)
unfolding cut_strings
cut_step bytes lengths at i h = rw (add-one i, drop-cons lengths i 0 h, drop-drop (get_or lengths i 0) at bytes)

-- the sum from length i on
pub total-step : (lengths : List ℕ) (i : ℕ) → i < length lengths → total (drop i lengths) ≡ get_or lengths i 0 + total (drop (i + 1) lengths)
unfolding total
total-step lengths i h = rw (add-one i, drop-cons lengths i 0 h)

-- where the slice has the first string: the bytes of its length, its own bytes, and those of the
-- strings after it
pub length-cut-strings : (bytes lengths : List ℕ) (n : ℕ) → n ≤ length bytes
    → length (strings_bytes (cut_strings bytes (n ∷ lengths))) ≡ length (uvarint n) + n + length (strings_bytes (cut_strings (drop n bytes) lengths))
unfolding cut_strings
length-cut-strings bytes lengths n h =
    length-strings (take n bytes) (cut_strings (drop n bytes) lengths)
    ∙ ap (λ (m : ℕ). length (uvarint m) + m + length (strings_bytes (cut_strings (drop n bytes) lengths))) (length-take-le n bytes h)

-- BadList: an odd number of strings
pub odd_list : (bytes lengths : List ℕ) → length lengths % 2 ≡ 1 → bad_list bytes lengths ≡ true
unfolding bad_list
odd_list bytes lengths h = rw (eq-eqb (length lengths % 2) 1 h)

-- a list that is not bad has an even number of strings
pub even_list : (bytes lengths : List ℕ) → bad_list bytes lengths ≡ false → length (cut_strings bytes lengths) % 2 ≡ 0
unfolding bad_list
even_list bytes lengths h = go (eqb (length lengths % 2) 1) refl h
  where
    go : (t : Bool) → eqb (length lengths % 2) 1 ≡ t → t || not (eqb (total lengths) (length bytes)) ≡ false
        → length (cut_strings bytes lengths) % 2 ≡ 0
    go true e k = let z : ◌≡◌ {A = ℕ} 0 1 = cc in absurd (omega arith)
    go false e k = let ne : length lengths % 2 ≡ 1 → ⊥ = eqb-false (length lengths % 2) 1 e in rw (length_cut bytes lengths) (omega arith)

-- ---- how many bytes an entry takes

module _ (b : List ℕ) (used : ℕ) where
  -- the first row of a body, and a later one
  pub row_first : (id time v : ℕ) → used ≡ 1
      → row_bytes b used id time v ≡ be8 id ++ (be8 time ++ (delta_bytes 0 ++ (delta_bytes 0 ++ be8 v)))
  unfolding row_bytes
  row_first id time v h =
      rw (
        head_first b used id time h,
        append_assoc (be8 id) (be8 time ++ (delta_bytes 0 ++ delta_bytes 0)) (be8 v),
        append_assoc (be8 time) (delta_bytes 0 ++ delta_bytes 0) (be8 v),
        append_assoc (delta_bytes 0) (delta_bytes 0) (be8 v),
      )

  -- a later one: its deltas, and its value
  pub row-later : (id time v : ℕ) → (used ≡ 1 → ⊥)
      → row_bytes b used id time v
      ≡ delta_bytes (minus id (read_be8 (drop 1 b))) ++ (delta_bytes (minus time (read_be8 (drop 9 b))) ++ be8 v)
  unfolding row_bytes
  row-later id time v h = rw (head-later b used id time h) (append_assoc (delta_bytes (minus id (read_be8 (drop 1 b)))) _ (be8 v))

  -- 26 bytes
  pub length-row-first : (id time v : ℕ) → used ≡ 1 → length (row_bytes b used id time v) ≡ 26
  length-row-first id time v h =
      rw (row_first id time v h)
      (omega (
        arith,
        length-append (be8 id) (be8 time ++ (delta_bytes 0 ++ (delta_bytes 0 ++ be8 v))),
        length-append (be8 time) (delta_bytes 0 ++ (delta_bytes 0 ++ be8 v)),
        length-append (delta_bytes 0) (delta_bytes 0 ++ be8 v),
        length-append (delta_bytes 0) (be8 v),
        length_delta_0,
        length-be8 id,
        length-be8 time,
        length-be8 v,
      ))

  -- two deltas and 8 bytes
  pub length-row-later : (id time v : ℕ) → (used ≡ 1 → ⊥)
      → length (row_bytes b used id time v)
      ≡ length (delta_bytes (minus id (read_be8 (drop 1 b)))) + length (delta_bytes (minus time (read_be8 (drop 9 b)))) + 8
  length-row-later id time v h =
      rw (row-later id time v h)
      (omega (
        arith,
        length-append (delta_bytes (minus id (read_be8 (drop 1 b)))) (delta_bytes (minus time (read_be8 (drop 9 b))) ++ be8 v),
        length-append (delta_bytes (minus time (read_be8 (drop 9 b)))) (be8 v),
        length-be8 v,
      ))

  -- an id and a list of strings
  pub length-series : (id : ℕ) (ts : List (List ℕ)) → length (entry_bytes b used (series_entry id ts)) ≡ 8 + length (string_list_bytes ts)
  unfolding entry_bytes
  length-series id ts = omega (arith, length-append (be8 id) (string_list_bytes ts), length-be8 id)

  -- a row
  pub length-sample : (id : ℕ) (time : ℤ) (v : ℕ) → length (entry_bytes b used (sample_entry id time v)) ≡ length (row_bytes b used id (to_bits time) v)
  unfolding entry_bytes
  length-sample id time v = refl

  -- an id and two times
  pub length-tombstone : (id : ℕ) (min max : ℤ) → length (entry_bytes b used (tombstone_entry id min max)) ≡ 8 + length (varint min) + length (varint max)
  unfolding entry_bytes
  length-tombstone id min max =
      omega (arith, length-append (be8 id) (varint min ++ varint max), length-append (varint min) (varint max), length-be8 id)

  -- a row and a list of strings
  pub length_exemplar : (id : ℕ) (time : ℤ) (v : ℕ) (ts : List (List ℕ))
      → length (entry_bytes b used (exemplar_entry id time v ts)) ≡ length (row_bytes b used id (to_bits time) v) + length (string_list_bytes ts)
  unfolding entry_bytes
  length_exemplar id time v ts = length-append (row_bytes b used id (to_bits time) v) (string_list_bytes ts)

  -- an id, a byte and a list of strings
  pub length_metadata : (id metric : ℕ) (ts : List (List ℕ))
      → length (entry_bytes b used (metadata_entry id metric ts)) ≡ length (uvarint id) + 1 + length (string_list_bytes ts)
  unfolding entry_bytes
  length_metadata id metric ts = omega (arith, length-append (uvarint id) (metric ∷ string_list_bytes ts))
