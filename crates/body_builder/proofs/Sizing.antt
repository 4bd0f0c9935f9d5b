-- How many bytes rows and lists of strings take, and the loops over the lengths.
use Rattle.std.proofs.Common.{◌≡◌, refl, sym, ap, ap₂, ◌∙◌, Bool, true, false, cond, ◌||◌, not, List, [], ◌∷◌, ◌++◌, ℕ, suc, ◌+◌, ◌/◌, ◌%◌, ◌≤◌, ◌<◌, arith, add-one, ltb-true, eq-eqb, ne_eqb, eqb-true, ℤ, ltb, eqb, length, get_or, drop, set, drop_of_length-le, length-drop, length-set, drop-cons}
use Rattle.std.proofs.lemmas.Bool.{eqb-false}
use Rattle.std.proofs.lemmas.List.Edits.{sets}
use Rattle.wal_types.specs.Deltas.{minus, to_bits, int_from_bits}
use Rattle.byte_copy.specs.Put.{put_at, put_end}
use Rattle.uvarint.specs.Uvarint.{uvarint}
use Rattle.varint.specs.Varint.{zigzag, varint}
use Rattle.uvarint.specs.UvarintLaws.{one_group, length-at-least_1}
use Rattle.big_endian.specs.Fixed.{be8, read_be8}
use Rattle.big_endian.specs.FixedLaws.{length-be8}
use Rattle.body_format.specs.Entries.{series_entry, sample_entry, tombstone_entry, exemplar_entry, metadata_entry}
use Rattle.body_format.specs.Building.{strings_bytes, string_list_bytes, cut_strings, total, bad_list, row_bytes, entry_bytes}
use Rattle.body_format.specs.Heads.{delta_bytes}
use Rattle.body_format.proofs.Laws.Fields.{length-list}
use Rattle.body_format.proofs.Laws.Heads.{delta_bytes_lem}
use Rattle.body_format.proofs.Laws.Strings.{length_cut, length-cut-strings, row_first, row-later, length-row-first, length-row-later, length-series, length-tombstone, length_exemplar, length_metadata}
use Rattle.body_builder.specs.declared.admission.Deltas.{Deltas}
use Rattle.body_builder.specs.Sizes.{row_size, tombstone_size, row_tail, deltas_in, zigzags_of, heads, list_size}
use Rattle.body_builder.specs.Laws.Putting.{Put, put_last, put_first, room_then, put_then}
use Rattle.body_builder.specs.Laws.Additions.{Sized, exact, above, both_sized, Measures}
use Rattle.std.specs.Prelude.{Option, Some}

-- ---- deltas of one byte each

module _ (d e v : ℕ) (h : d < 128) (k : e < 128) where
  tail_short : row_tail d e v ≡ d ∷ e ∷ be8 v
  unfolding row_tail
  tail_short = rw (one_group d h, one_group e k)

  length-short : length (row_tail d e v) ≡ 10
  length-short = ap length tail_short ∙ omega (arith, length-be8 v)

  pub short-room : (b : List ℕ) (at : ℕ) → at + length (row_tail d e v) ≤ length b → at + 10 ≤ length b
  short-room b at r = omega (arith, length-short)

  -- two stores and a put
  pub short-put : (b b' : List ℕ) (at r : ℕ) → at + length (row_tail d e v) ≤ length b
      → r ≡ put_end (set (set b at d) (at + 1) e) (at + 2) (be8 v) → b' ≡ put_at (set (set b at d) (at + 1) e) (at + 2) (be8 v)
      → Put b at (row_tail d e v) b' r
  short-put b b' at r room f g =
      let stored = set (set b at d) (at + 1) e in
      let same : length stored ≡ length b = length-set (set b at d) (at + 1) e ∙ length-set b at d in
      let last : Put stored (at + 2) (be8 v) b' r = put_last stored b' (at + 2) r (be8 v) (omega (arith, same, short-room b at room, length-be8 v)) f g in (
        omega (arith, last.0, length-short, length-be8 v),
        last.1 ∙ ap₂ (λ (x y : ℕ). sets (set (set b at d) x e) y (be8 v)) {x = at + 1} {y = suc at} {u = at + 2} {v = suc (suc at)} (omega arith) (omega arith) ∙ ap (sets b at) (sym tail_short),
      )

-- ---- lengths

pub heads-step : (lengths : List ℕ) (i : ℕ) → i < length lengths
    → heads (drop i lengths) ≡ length (uvarint (get_or lengths i 0)) + heads (drop (i + 1) lengths)
unfolding heads
heads-step lengths i h = rw (add-one i, drop-cons lengths i 0 h)

pub heads-end : (lengths : List ℕ) (i : ℕ) → length lengths ≤ i → heads (drop i lengths) ≡ 0
unfolding heads
heads-end lengths i h = rw (drop_of_length-le lengths h)

pub total-end : (lengths : List ℕ) (i : ℕ) → length lengths ≤ i → total (drop i lengths) ≡ 0
unfolding total
total-end lengths i h = rw (drop_of_length-le lengths h)

heads-least : (lengths : List ℕ) → length lengths ≤ heads lengths
unfolding heads
heads-least [] = omega arith
heads-least (n ∷ lengths) = omega (arith, length-at-least_1 n, heads-least lengths)

-- nothing is left exactly if the sum is the size
pub sum_is : (left sum size : ℕ) → left + sum ≡ size → eqb left 0 ≡ eqb sum size
sum_is left sum size e = go (eqb left 0) refl
  where
    go : (t : Bool) → eqb left 0 ≡ t → eqb left 0 ≡ eqb sum size
    go true a = a ∙ sym (eq-eqb sum size (omega (arith, eqb-true left 0 a)))
    go false a = a ∙ sym (ne_eqb sum size (λ b. eqb-false left 0 a (omega arith)))

-- the lengths of a list that is not bad add up
pub good-sum : (bytes lengths : List ℕ) → bad_list bytes lengths ≡ false → total lengths ≡ length bytes
unfolding bad_list
good-sum bytes lengths h = go (eqb (length lengths % 2) 1) (eqb (total lengths) (length bytes)) refl h
  where
    go : (t u : Bool) → eqb (total lengths) (length bytes) ≡ u → t || not u ≡ false → total lengths ≡ length bytes
    go true u e k = let z : ◌≡◌ {A = ℕ} 0 1 = cc in absurd (omega arith)
    go false true e k = eqb-true (total lengths) (length bytes) e
    go false false e k = let z : ◌≡◌ {A = ℕ} 0 1 = cc in absurd (omega arith)

cut-size : (bytes lengths : List ℕ) → total lengths ≡ length bytes
    → length (strings_bytes (cut_strings bytes lengths)) ≡ heads lengths + length bytes
unfolding cut_strings strings_bytes heads total
cut-size bytes [] e = omega arith
cut-size bytes (n ∷ lengths) e =
    omega (
      arith,
      length-cut-strings bytes lengths n (omega arith),
      cut-size (drop n bytes) lengths (omega (arith, length-drop n bytes)),
      length-drop n bytes,
    )

pub list-sized : (bytes lengths : List ℕ) → total lengths ≡ length bytes
    → Sized (list_size (length bytes) lengths) (length (string_list_bytes (cut_strings bytes lengths)))
unfolding list_size
list-sized bytes lengths e = go (ltb 65536 (length lengths)) (ltb 65536 (length bytes)) refl refl
  where
    count : length (uvarint (length (cut_strings bytes lengths) / 2)) ≡ length (uvarint (length lengths / 2))
    count = ap (λ (n : ℕ). length (uvarint (n / 2))) (length_cut bytes lengths)

    whole : length (string_list_bytes (cut_strings bytes lengths)) ≡ length (uvarint (length lengths / 2)) + heads lengths + length bytes
    whole = omega (arith, length-list (cut_strings bytes lengths), count, cut-size bytes lengths e)

    go : (t u : Bool) → ltb 65536 (length lengths) ≡ t → ltb 65536 (length bytes) ≡ u
        → Sized (cond t 65537 (cond u 65537 (length (uvarint (length lengths / 2)) + heads lengths + length bytes))) (length (string_list_bytes (cut_strings bytes lengths)))
    go true u a b = above (omega arith) (omega (arith, ltb-true 65536 (length lengths) a, heads-least lengths, whole))
    go false true a b = above (omega arith) (omega (arith, ltb-true 65536 (length bytes) b, whole))
    go false false a b = exact (sym whole)

-- ---- rows

pub row_sized : (b : List ℕ) (u id time v : ℕ) (row : Deltas) → row ≡ zigzags_of (deltas_in b u id time) → row_size u row.id row.time ≡ length (row_bytes b u id time v)
row_sized b u id time v row e = go (eqb u 1) refl
  where
    d : ℕ
    d = minus id (read_be8 (drop 1 b))

    f : ℕ
    f = minus time (read_be8 (drop 9 b))

    go : (t : Bool) → eqb u 1 ≡ t → row_size u row.id row.time ≡ length (row_bytes b u id time v)
    go true a = rw a (sym (length-row-first b u id time v (eqb-true u 1 a)))
    go false a =
        let r : row ≡ zigzags_of (record { id = d; time = f }) = rw a at e in
        rw (a, r, ← delta_bytes_lem d, ← delta_bytes_lem f) (sym (length-row-later b u id time v (eqb-false u 1 a)))

-- a later row: its deltas, and the value
pub later-row : (b : List ℕ) (u id time v : ℕ) (row : Deltas) → row ≡ zigzags_of (deltas_in b u id time) → (u ≡ 1 → ⊥) → row_tail row.id row.time v ≡ row_bytes b u id time v
unfolding row_tail delta_bytes varint
later-row b u id time v row e h =
    ap (λ (r : Deltas). row_tail r.id r.time v) (rw (ne_eqb u 1 h) at e) ∙ sym (row-later b u id time v h)

-- the first row, from what its puts write
module _ (b d₁ d₂ : List ℕ) (u p q id time v : ℕ) (first : u ≡ 1) (room : u + length (row_bytes b u id time v) ≤ length b)
    (e : p ≡ put_end b u (be8 id)) (f : d₁ ≡ put_at b u (be8 id)) (g : q ≡ put_end d₁ p (be8 time)) (h : d₂ ≡ put_at d₁ p (be8 time)) where
  bytes : row_bytes b u id time v ≡ be8 id ++ (be8 time ++ row_tail 0 0 v)
  unfolding row_tail delta_bytes varint zigzag int_from_bits
  bytes = row_first b u id time v first

  room₀ : u + length (be8 id ++ (be8 time ++ row_tail 0 0 v)) ≤ length b
  room₀ = rw bytes at room

  one : Put b u (be8 id) d₁ p
  one = put_first b d₁ u p (be8 id) (be8 time ++ row_tail 0 0 v) room₀ e f

  room₁ : p + length (be8 time ++ row_tail 0 0 v) ≤ length d₁
  room₁ = room_then b d₁ u p (be8 id) (be8 time ++ row_tail 0 0 v) room₀ one

  two : Put d₁ p (be8 time) d₂ q
  two = put_first d₁ d₂ p q (be8 time) (row_tail 0 0 v) room₁ g h

  pub first-room : q + length (row_tail 0 0 v) ≤ length d₂
  first-room = room_then d₁ d₂ p q (be8 time) (row_tail 0 0 v) room₁ two

  pub first-row : (d₃ : List ℕ) (r : ℕ) → Put d₂ q (row_tail 0 0 v) d₃ r → Put b u (row_bytes b u id time v) d₃ r
  first-row d₃ r three =
      rw bytes
      (put_then b d₁ u p (be8 id) (be8 time ++ row_tail 0 0 v) room₀ d₃ r one
      (put_then d₁ d₂ p q (be8 time) (row_tail 0 0 v) room₁ d₃ r two three))

-- ---- the sizes of entries without strings

pub sample_sized : (b : List ℕ) (u id : ℕ) (time : ℤ) (v : ℕ) (row : Deltas) (n : ℕ) → row ≡ zigzags_of (deltas_in b u id (to_bits time))
    → n ≡ row_size u row.id row.time → Measures (Some n) false (length (entry_bytes b u (sample_entry id time v)))
unfolding entry_bytes
sample_sized b u id time v row n e h = (refl, λ _. exact (h ∙ row_sized b u id (to_bits time) v row e))

pub tombstone_sized : (b : List ℕ) (u id : ℕ) (min max : ℤ) (n : ℕ) → n ≡ tombstone_size min max
    → Measures (Some n) false (length (entry_bytes b u (tombstone_entry id min max)))
tombstone_sized b u id min max n h = (refl, λ _. exact (omega (arith, h, length-tombstone b u id min max)))

-- ---- the sizes of entries with strings

pub listed : (strings lengths : List ℕ) (list : ℕ) → bad_list strings lengths ≡ false → list ≡ list_size (length strings) lengths
    → Sized list (length (string_list_bytes (cut_strings strings lengths)))
listed strings lengths list good e = rw e (list-sized strings lengths (good-sum strings lengths good))

-- n bytes, and a list that is not bad
pub with_list : (strings lengths : List ℕ) (n list : ℕ) → false ≡ bad_list strings lengths → list ≡ list_size (length strings) lengths
    → Measures (Some (n + list)) (bad_list strings lengths) (n + length (string_list_bytes (cut_strings strings lengths)))
with_list strings lengths n list good e = (good, λ h. both_sized (exact refl) (listed strings lengths list h e))

module _ (b : List ℕ) (u : ℕ) (strings lengths : List ℕ) (size : Option ℕ) where
  pub series-sized : (id : ℕ) → Measures size (bad_list strings lengths) (8 + length (string_list_bytes (cut_strings strings lengths)))
      → Measures size (bad_list strings lengths) (length (entry_bytes b u (series_entry id (cut_strings strings lengths))))
  series-sized id h = rw (length-series b u id (cut_strings strings lengths)) h

  pub exemplar_sized : (id : ℕ) (time : ℤ) (v : ℕ) (row : Deltas) → row ≡ zigzags_of (deltas_in b u id (to_bits time))
      → Measures size (bad_list strings lengths) (row_size u row.id row.time + length (string_list_bytes (cut_strings strings lengths)))
      → Measures size (bad_list strings lengths) (length (entry_bytes b u (exemplar_entry id time v (cut_strings strings lengths))))
  exemplar_sized id time v row e h =
      rw (length_exemplar b u id time v (cut_strings strings lengths), ← row_sized b u id (to_bits time) v row e) h

  pub metadata_sized : (id m : ℕ) → Measures size (bad_list strings lengths) (length (uvarint id) + 1 + length (string_list_bytes (cut_strings strings lengths)))
      → Measures size (bad_list strings lengths) (length (entry_bytes b u (metadata_entry id m (cut_strings strings lengths))))
  metadata_sized id m h = rw (length_metadata b u id m (cut_strings strings lengths)) h
