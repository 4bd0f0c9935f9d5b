-- Laws of walks: reading an entry at each place in turn gives the list of entries that the
-- definition reads, each entry's strings, and each histogram's lists.
-- Assumes nothing.
use Rattle.std.proofs.Common.{◌≡◌, refl, Bool, false, cond, List, ◌∷◌, take, drop, ltb, eqb, true, ℕ, zero, suc, ◌+◌, ◌*◌, ◌≤◌, ◌<◌, length, ap, subst, ◌∙◌, arith, length-take-le, le-ltb, ltb-false, ne_eqb, eqb-true}
use borrow.Author.Tests.{eqb-false}
use Rattle.wal_types.specs.declared.Refusal.TheVariants.{Short}
use Rattle.wal_types.specs.Terms.{offset}
use Rattle.body_format.specs.Results.EntryAnswer.{End}
use Rattle.body_format.specs.Results.EntryPlace as place
use Rattle.body_format.specs.Results.StringAnswer.{Found as StringFound}
use Rattle.body_format.specs.Fields.{Field, got, fault, and_then, byte_at, fixed_at, uvarint_at, varint_at, StringField, string_at, strings_at, string_list_at}
use Rattle.body_format.specs.Histograms.{histogram_at}
use Rattle.body_format.specs.Entries.{BodyType, series, samples, tombstones, exemplars, metadata, histograms, known, body_type_of, has_rows, Entry, row_at, series_at, sample_at, tombstone_at, exemplar_at, metadata_at, histogram_entry_at, entry_at, entries_from, first_at, entries}
use Rattle.body_format.specs.Reading.{place_or_end, first_place, entry_place, answer_entry, entry_there, read_entry, answer_string, read_string}
use Rattle.body_format.specs.Calls.{Strings, strings_of, InFull, body_calls, Walks}
use Rattle.body_format.specs.Calls.Walks.{next, done}
use Rattle.body_format.proofs.Laws.Bounds.{Every, every_then, every_both, of_got, byte_ahead, fixed_ahead, uvarint_ahead, varint_ahead, string_ahead, row_ahead, histogram_ahead, entry_ahead}
use Rattle.body_format.proofs.Laws.Lists.{entries-end, entries_suc, first_bounds}
use Rattle.body_format.proofs.Laws.Places.{place_end, place-before, known-first, known-later}
use Rattle.body_format.proofs.Laws.Elements.{histogram_in_full}

-- where a reading succeeds, it is `got` of its value and place
every_self : {A : Type 0} (x : Field A) → Every (λ a q. x ≡ got a q) x
every_self (got a q) = refl
every_self (fault why) = tt

-- the bytes of a string are where it starts, and it ends after them
string_bytes_lem : (s : List ℕ) (p : ℕ) → Every (λ t q. (take (length t.bytes) (drop t.start s) ≡ t.bytes) × (q ≡ t.start + length t.bytes)) (string_at s p)
unfolding string_at
string_bytes_lem s p = every_then (λ n q. (p + 1 ≤ q) × (q ≤ length s)) _ (uvarint_at s p) _ (uvarint_ahead s p) (λ n q l. go n q (ltb (length (drop q s)) n) refl)
  where
    go : (n q : ℕ) (b : Bool) → ltb (length (drop q s)) n ≡ b
        → Every {A = StringField} (λ t r. (take (length t.bytes) (drop t.start s) ≡ t.bytes) × (r ≡ t.start + length t.bytes))
        (cond b (fault (Short (offset p))) (got (record { start = q; bytes = take n (drop q s) }) (q + n)))
    go n q true e = tt
    go n q false e =
        let l : length (take n (drop q s)) ≡ n = length-take-le n (drop q s) (ltb-false (length (drop q s)) n e) in
        rw l (refl, refl)

module _ (b : ℕ) (s : List ℕ) (k : BodyType) (type : body_type_of b ≡ known k) where
  -- ---- strings

  -- at a place within the body
  pub string-at : (p : ℕ) → 1 ≤ p → p ≤ length (b ∷ s) → read_string (b ∷ s) p ≡ answer_string (string_at (b ∷ s) p)
  unfolding read_string
  string-at p h l = rw (type, ne_eqb p 0 (omega arith), le-ltb (length (b ∷ s)) p l)

  -- one string is read with its start and length
  string-told : (p : ℕ) → 1 ≤ p
      → Every (λ t q. (read_string (b ∷ s) p ≡ StringFound (offset t.start) (length t.bytes))
      × (take (length t.bytes) (drop t.start (b ∷ s)) ≡ t.bytes) × (q ≡ t.start + length t.bytes) × (p + 1 ≤ q)) (string_at (b ∷ s) p)
  string-told p h =
      told (string_at (b ∷ s) p) (string_ahead (b ∷ s) p) (string_bytes_lem (b ∷ s) p) refl
    where
      told : (x : Field StringField) → Every (λ t q. (p + 1 ≤ q) × (q ≤ length (b ∷ s))) x
          → Every (λ t q. (take (length t.bytes) (drop t.start (b ∷ s)) ≡ t.bytes) × (q ≡ t.start + length t.bytes)) x
          → string_at (b ∷ s) p ≡ x
          → Every (λ t q. (read_string (b ∷ s) p ≡ StringFound (offset t.start) (length t.bytes))
          × (take (length t.bytes) (drop t.start (b ∷ s)) ≡ t.bytes) × (q ≡ t.start + length t.bytes) × (p + 1 ≤ q)) x
      told (got t q) (l, m) (i, j) e = (string-at p h (omega arith) ∙ ap answer_string e, i, j, l)
      told (fault why) l i e = tt

  strings-walk : (n p : ℕ) → 1 ≤ p → Every (λ ts r. Strings read_string (b ∷ s) p ts) (strings_at n (b ∷ s) p)
  unfolding strings_at
  strings-walk zero p h = tt
  strings-walk (suc n) p h =
      every_then _ _ (string_at (b ∷ s) p) _ (string-told p h)
      (λ t q l. every_then (λ ts r. Strings read_string (b ∷ s) q ts) _ (strings_at n (b ∷ s) q) _ (strings-walk n q (omega arith))
      (λ ts r w. (t.start, l.0, l.1, subst (λ (at : ℕ). Strings read_string (b ∷ s) at ts) l.2 w)))

  list-walk : (p : ℕ) → Every (λ l r. Strings read_string (b ∷ s) l.first l.strings) (string_list_at (b ∷ s) p)
  unfolding string_list_at
  list-walk p =
      every_then (λ n q. (p + 1 ≤ q) × (q ≤ length (b ∷ s))) _ (uvarint_at (b ∷ s) p) _ (uvarint_ahead (b ∷ s) p)
      (λ n q l. every_then (λ ts r. Strings read_string (b ∷ s) q ts) _ (strings_at (2 * n) (b ∷ s) q) _ (strings-walk (2 * n) q (omega arith)) (λ ts r w. w))

  -- the strings of an entry, from the place where they begin
  entry-strings : (j : BodyType) (p : ℕ) → Every (λ e q. Strings read_string (b ∷ s) e.first (strings_of e.entry)) (entry_at j (b ∷ s) p)
  unfolding series_at sample_at tombstone_at exemplar_at metadata_at histogram_entry_at
  entry-strings series p =
      every_then _ _ (fixed_at (b ∷ s) p) _ (fixed_ahead (b ∷ s) p)
      (λ id q h. every_then _ _ (string_list_at (b ∷ s) q) _ (list-walk q) (λ l r w. w))
  entry-strings samples p = every_then _ _ (row_at (b ∷ s) p) _ (row_ahead (b ∷ s) p) (λ w q h. tt)
  entry-strings tombstones p =
      every_then _ _ (fixed_at (b ∷ s) p) _ (fixed_ahead (b ∷ s) p)
      (λ id q h. every_then _ _ (varint_at (b ∷ s) q) _ (varint_ahead (b ∷ s) q)
      (λ min r i. every_then _ _ (varint_at (b ∷ s) r) _ (varint_ahead (b ∷ s) r) (λ max z j. tt)))
  entry-strings exemplars p =
      every_then _ _ (row_at (b ∷ s) p) _ (row_ahead (b ∷ s) p)
      (λ w q h. every_then _ _ (string_list_at (b ∷ s) q) _ (list-walk q) (λ l r z. z))
  entry-strings metadata p =
      every_then _ _ (uvarint_at (b ∷ s) p) _ (uvarint_ahead (b ∷ s) p)
      (λ id q h. every_then _ _ (byte_at (b ∷ s) q) _ (byte_ahead (b ∷ s) q)
      (λ metric r i. every_then _ _ (string_list_at (b ∷ s) r) _ (list-walk r) (λ l z w. w)))
  entry-strings (histograms j) p = every_then _ _ (histogram_at j (b ∷ s) p) _ (histogram_ahead (b ∷ s) j p) (λ h q l. tt)

  -- ---- entries

  -- at a place: where the entry of that place is
  entry-there : (p : ℕ) → read_entry (b ∷ s) p ≡ entry_there k (b ∷ s) (entry_place k (b ∷ s) p)
  unfolding read_entry
  entry-there p = rw type

  -- before the body's end: there
  entry-at : (p from : ℕ) → entry_place k (b ∷ s) p ≡ place_or_end (b ∷ s) from → from < length (b ∷ s)
      → read_entry (b ∷ s) p ≡ answer_entry (entry_at k (b ∷ s) from)
  entry-at p from e h = entry-there p ∙ ap (entry_there k (b ∷ s)) (e ∙ place-before (b ∷ s) from h)

  -- at the body's end: the plain end
  entry-end : (p from : ℕ) → entry_place k (b ∷ s) p ≡ place_or_end (b ∷ s) from → from ≡ length (b ∷ s) → read_entry (b ∷ s) p ≡ End
  entry-end p from e h = entry-there p ∙ ap (entry_there k (b ∷ s)) (e ∙ place_end (b ∷ s) from h)

  -- a histogram is read in full
  in_full : (j : BodyType) → body_type_of b ≡ known j → (p from : ℕ) → entry_place j (b ∷ s) p ≡ place.At (offset from)
      → Every (λ d q. InFull body_calls (b ∷ s) p d.entry q) (entry_at j (b ∷ s) from)
  unfolding series_at sample_at tombstone_at exemplar_at metadata_at histogram_entry_at
  in_full series t p from e =
      every_then _ _ (fixed_at (b ∷ s) from) _ (every_self (fixed_at (b ∷ s) from))
      (λ id q i. every_then _ _ (string_list_at (b ∷ s) q) _ (every_self (string_list_at (b ∷ s) q)) (λ l r w. tt))
  in_full samples t p from e = every_then _ _ (row_at (b ∷ s) from) _ (every_self (row_at (b ∷ s) from)) (λ w q i. tt)
  in_full tombstones t p from e =
      every_then _ _ (fixed_at (b ∷ s) from) _ (every_self (fixed_at (b ∷ s) from))
      (λ id q i. every_then _ _ (varint_at (b ∷ s) q) _ (every_self (varint_at (b ∷ s) q))
      (λ min r o. every_then _ _ (varint_at (b ∷ s) r) _ (every_self (varint_at (b ∷ s) r)) (λ max z w. tt)))
  in_full exemplars t p from e =
      every_then _ _ (row_at (b ∷ s) from) _ (every_self (row_at (b ∷ s) from))
      (λ w q i. every_then _ _ (string_list_at (b ∷ s) q) _ (every_self (string_list_at (b ∷ s) q)) (λ l r z. tt))
  in_full metadata t p from e =
      every_then _ _ (uvarint_at (b ∷ s) from) _ (every_self (uvarint_at (b ∷ s) from))
      (λ id q i. every_then _ _ (byte_at (b ∷ s) q) _ (every_self (byte_at (b ∷ s) q))
      (λ metric r o. every_then _ _ (string_list_at (b ∷ s) r) _ (every_self (string_list_at (b ∷ s) r)) (λ l z w. tt)))
  in_full (histograms j) t p from e =
      every_then _ _ (histogram_at j (b ∷ s) from) _ (histogram_in_full b s j t p from e) (λ h q w. w)

  -- from place p, at which the entry of place `from` is read
  walk : (n p from : ℕ) → entry_place k (b ∷ s) p ≡ place_or_end (b ∷ s) from → 1 ≤ from → from ≤ length (b ∷ s) → length (b ∷ s) ≤ n + from
      → (has_rows k ≡ true → from < length (b ∷ s) → 17 ≤ from)
      → Every (λ es r. Walks body_calls (b ∷ s) p es) (entries_from n k (b ∷ s) from)
  walk zero p from e h l enough r = rw (entries-end k (b ∷ s) zero from (omega arith)) (done (entry-end p from e (omega arith)))
  walk (suc n) p from e h l enough r = go (eqb from (length (b ∷ s))) refl (walk n)
    where
      go : (t : Bool) → eqb from (length (b ∷ s)) ≡ t
          → ((p q : ℕ) → entry_place k (b ∷ s) p ≡ place_or_end (b ∷ s) q → 1 ≤ q → q ≤ length (b ∷ s) → length (b ∷ s) ≤ n + q
          → (has_rows k ≡ true → q < length (b ∷ s) → 17 ≤ q)
          → Every (λ es r. Walks body_calls (b ∷ s) p es) (entries_from n k (b ∷ s) q))
          → Every (λ es r. Walks body_calls (b ∷ s) p es) (entries_from (suc n) k (b ∷ s) from)
      go true t ih =
          let same : from ≡ length (b ∷ s) = eqb-true from (length (b ∷ s)) t in
          rw (entries-end k (b ∷ s) (suc n) from same) (done (entry-end p from e same))
      go false t ih =
          let ne : from ≡ length (b ∷ s) → ⊥ = eqb-false from (length (b ∷ s)) t in
          let lt : from < length (b ∷ s) = omega arith in
          rw (entries_suc k (b ∷ s) n from lt)
          (every_then _ _ (entry_at k (b ∷ s) from) _
          (every_both (λ d q. (from + 1 ≤ q) × (q ≤ length (b ∷ s))) _ (entry_at k (b ∷ s) from) (entry_ahead (b ∷ s) k from)
          (every_both _ _ (entry_at k (b ∷ s) from) (every_self (entry_at k (b ∷ s) from))
          (every_both _ _ (entry_at k (b ∷ s) from) (entry-strings k from) (in_full k type p from (e ∙ place-before (b ∷ s) from lt)))))
          (λ d q w. every_then (λ es z. Walks body_calls (b ∷ s) q es) _ (entries_from n k (b ∷ s) q) _
          (ih q q (known-later k (b ∷ s) q (omega arith) w.0.1 (λ x. omega (arith, r x lt))) (omega arith) w.0.1 (omega arith) (λ x y. omega (arith, r x lt)))
          (λ es z rest. next d.first (entry-at p from e lt ∙ ap answer_entry w.1.0) w.1.1.0 w.1.1.1 rest)))

  -- the whole list, from place 1 on
  pub entries-walk : (es : List Entry) (p : ℕ) → entries k (b ∷ s) ≡ got es p → Walks body_calls (b ∷ s) 1 es
  unfolding entries
  entries-walk es p e = go (first_at (has_rows k) (b ∷ s)) refl (first_bounds (has_rows k) (b ∷ s) (omega arith)) e
    where
      go : (x : Field ℕ) → first_at (has_rows k) (b ∷ s) ≡ x
          → Every (λ first q. (1 ≤ first) × (first ≤ length (b ∷ s)) × (has_rows k ≡ true → (length (b ∷ s) ≡ 1 → ⊥) → 17 ≤ first)) x
          → and_then x (λ first q. entries_from (length (b ∷ s)) k (b ∷ s) first) ≡ got es p
          → Walks body_calls (b ∷ s) 1 es
      go (got first q) f (h, l, r) i =
          of_got (λ es z. Walks body_calls (b ∷ s) 1 es) (entries_from (length (b ∷ s)) k (b ∷ s) first) es p
          (walk (length (b ∷ s)) 1 first (known-first k (b ∷ s) 1 refl (omega arith) ∙ ap (first_place (b ∷ s)) f) h l (omega arith) (λ w z. r w (λ one. omega arith))) i
      go (fault why) f h i = let z : ◌≡◌ {A = ℕ} 0 1 = cc in absurd (omega arith)
