-- Laws of bodies that grow: where a body with the entries es is followed by the bytes of an entry,
-- the two are a body with es and that entry.
-- Assumes nothing.
use Rattle.std.proofs.Common.{◌≡◌, Bool, true, false, get_or, take, drop, eqb, refl, List, [], ◌∷◌, ◌++◌, ℕ, suc, ◌+◌, ◌^◌, ◌≤◌, ◌<◌, length, ap, sym, ◌∙◌, eqb-true, take-append-drop, length-take-le, get_or-drop, append_assoc, arith, length-append}
use Rattle.std.proofs.lemmas.Bool.{eqb-false}
use Rattle.wal_types.specs.Deltas.{minus, to_bits}
use Rattle.wal_types.specs.DeltaLaws.{to_lt}
use Rattle.big_endian.specs.Fixed.{be8, read_be8}
use Rattle.big_endian.specs.FixedLaws.{length-be8, read-be8, read-be8-fits}
use Rattle.body_format.specs.declared.BucketKind.{BucketKind}
use Rattle.body_format.specs.Fields.{got}
use Rattle.body_format.specs.Entries.{BodyType, type_byte, has_rows, Entry, series_entry, sample_entry, tombstone_entry, exemplar_entry, metadata_entry, histogram_entry, body_type_for, Placed, entry_at, entries_from, first_at, entries}
use Rattle.body_format.specs.Heads.{head_bytes}
use Rattle.body_format.specs.Histograms.{Span, Histogram, numbers_bytes, lists_bytes, histogram_bytes}
use Rattle.body_format.specs.Building.{string_list_bytes, row_bytes, entry_bytes}
use Rattle.body_format.proofs.Laws.Fields.{place_same, Stands, stands-left, stands_right, stands-end}
use Rattle.body_format.proofs.Laws.Bounds.{of_got}
use Rattle.body_format.proofs.Laws.Kept.{be8-kept}
use Rattle.body_format.proofs.Laws.Lists.{entries-end, entries_enough, entries_snoc, entries-whole, first_rows, first_one}
use Rattle.body_format.proofs.Laws.Strings.{length-row-later, length-series, length-sample, length-tombstone, length_exemplar, length_metadata}
use Rattle.body_format.proofs.Laws.Heads.{head_first, head-later, Firsts}
use Rattle.body_format.proofs.Laws.Histograms.{histogram-some}
use Rattle.body_format.proofs.Laws.Entries.{Fits, read-entry}

-- s is a body of type k with the entries es. In a body of rows, any bytes after the tag begin with
-- a first id and a first timestamp of 64 bits.
pub record Body (k : BodyType) (s : List ℕ) (es : List Entry) : Type 0 where
  pub begins : Stands s 0 (type_byte k ∷ [])
  pub reads : entries k s ≡ got es (length s)
  pub firsts : has_rows k ≡ true → (length s ≡ 1 → ⊥) → (17 ≤ length s) × (read_be8 (drop 1 s) < 2 ^ 64) × (read_be8 (drop 9 s) < 2 ^ 64)

-- every body of bytes that can be read is one
pub readable : (k : BodyType) (s : List ℕ) (es : List Entry) (p : ℕ) → Stands s 0 (type_byte k ∷ []) → ((i : ℕ) → get_or s i 0 < 256)
    → entries k s ≡ got es p → Body k s es
readable k s es p st bytes e =
    let w = of_got _ (entries k s) es p (entries-whole k s (omega (arith, ap length st.1))) e in
    record {
      begins = st;
      reads = e ∙ place_same w.0;
      firsts = λ q ne. (w.1 q ne, fits 1, fits 9);
    }
  where
    fits : (n : ℕ) → read_be8 (drop n s) < 2 ^ 64
    fits n = read-be8-fits (drop n s) (λ i. rw get_or-drop (bytes (n + i)))

-- it has its tag
some_byte : (k : BodyType) (s : List ℕ) (es : List Entry) → Body k s es → 1 ≤ length s
some_byte k s es y = omega (arith, ap length y.begins.1)

-- bytes after a body do not change where its entries begin, once a body of rows has its first id
-- and first timestamp
first-place : (rows : Bool) (s x : List ℕ) → 1 ≤ length s → (rows ≡ true → 17 ≤ length s)
    → (first : ℕ) × (first ≤ length s) × (first_at rows s ≡ got first first) × (first_at rows (s ++ x) ≡ got first first)
first-place false s x h r = (1, h, refl, refl)
first-place true s x h r = (17, r refl, first_rows s (r refl), first_rows (s ++ x) (omega (arith, length-append s x, r refl)))

module _ (k : BodyType) (s : List ℕ) (es : List Entry) (x : List ℕ) (d : Placed) where
  -- an entry after a body; if it has rows, its first id and first timestamp are there
  grown : Body k s es → (has_rows k ≡ true → 17 ≤ length s) → 0 < length x → entry_at k (s ++ x) (length s) ≡ got d (length (s ++ x))
      → Body k (s ++ x) (es ++ (d.entry ∷ []))
  unfolding entries
  grown y rows some this =
      let f = first-place (has_rows k) s x (some_byte k s es y) rows in
      let first : ℕ = f.0 in
      let inside : first ≤ length s = f.1 in
      let sum : length (s ++ x) ≡ length s + length x = length-append s x in
      let old : entries_from (length s) k s first ≡ got es (length s) = rw f.2 at y.reads in
      record {
        begins = (y.begins.0 ++ x, ap (λ (l : List ℕ). l ++ x) y.begins.1);
        reads =
            rw f.3
            (entries_enough k (s ++ x) (length (s ++ x)) (suc (length (s ++ x))) first (omega arith) (omega arith) (omega arith)
            ∙ of_got _ (entries_from (length s) k s first) es (length s)
            (entries_snoc k s x d rows some this (length s) (length (s ++ x)) first (omega arith) inside (omega arith)) old);
        firsts = λ q ne.
            let l : 17 ≤ length s = rows q in
            let old-firsts = y.firsts q (omega arith) in
            (omega arith, rw (be8-kept s x 1 (omega arith)) old-firsts.1, rw (be8-kept s x 9 (omega arith)) old-firsts.2);
      }

-- a histogram has bytes
histogram-bytes : (b : List ℕ) (u : ℕ) (k : BucketKind) (e : Histogram (List Span) (List ℕ)) → 0 < length (entry_bytes b u (histogram_entry k e))
unfolding entry_bytes
histogram-bytes b u k e = histogram-some b u k e

-- and so has every entry
some_bytes : (b : List ℕ) (u : ℕ) (e : Entry) → (has_rows (body_type_for e) ≡ true → u ≡ 1 → ⊥) → 0 < length (entry_bytes b u e)
some_bytes b u (series_entry id ts) h = omega (arith, length-series b u id ts)
some_bytes b u (sample_entry id time v) h = omega (arith, length-sample b u id time v, length-row-later b u id (to_bits time) v (h refl))
some_bytes b u (tombstone_entry id min max) h = omega (arith, length-tombstone b u id min max)
some_bytes b u (exemplar_entry id time v ts) h = omega (arith, length_exemplar b u id time v ts, length-row-later b u id (to_bits time) v (h refl))
some_bytes b u (metadata_entry id metric ts) h = omega (arith, length_metadata b u id metric ts)
some_bytes b u (histogram_entry k e) h = histogram-bytes b u k e

-- the bytes of an entry after a body, where it is not a first row
later : (b : List ℕ) (u : ℕ) (s : List ℕ) (es : List Entry) (e : Entry) → Body (body_type_for e) s es
    → (has_rows (body_type_for e) ≡ true → (17 ≤ length s) × Firsts b u s) → Fits e → length (entry_bytes b u e) < 2 ^ 64
    → Body (body_type_for e) (s ++ entry_bytes b u e) (es ++ (e ∷ []))
later b u s es e y rows fits h =
    let x : List ℕ = entry_bytes b u e in
    let there = read-entry b u (s ++ x) (length s) e fits h
    (λ q. record {
      later = (rows q).1.later;
      id = be8-kept s x 1 (omega (arith, (rows q).0)) ∙ (rows q).1.id;
      time = be8-kept s x 9 (omega (arith, (rows q).0)) ∙ (rows q).1.time;
      id-fits = (rows q).1.id-fits;
      time-fits = (rows q).1.time-fits;
    })
    (stands-end s x) in
    grown (body_type_for e) s es x (record { entry = e; first = there.0 }) y (λ q. (rows q).0) (some_bytes b u e (λ q. (rows q).1.later))
    (there.1 ∙ place_same (sym (length-append s x)))

-- ---- the first row

-- the number whose eight bytes are at a place
number_at : (s : List ℕ) (p n x : ℕ) → p ≡ n → x < 2 ^ 64 → Stands s p (be8 x) → read_be8 (drop n s) ≡ x
number_at s p n x e h st = rw (← e) (ap read_be8 st.1 ∙ read-be8 x st.0 h)

module _ (s : List ℕ) (one : length s ≡ 1) (id time : ℕ) (hi : id < 2 ^ 64) (ht : time < 2 ^ 64) where
  -- a tag, and after it the first id and the first timestamp
  abbrev headed : List ℕ
  headed = s ++ (be8 id ++ be8 time)

  -- it has 17 bytes
  length-headed : length headed ≡ 17
  length-headed = omega (arith, length-append s (be8 id ++ be8 time), length-append (be8 id) (be8 time), length-be8 id, length-be8 time)

  -- the first id
  first-id : read_be8 (drop 1 headed) ≡ id
  first-id = number_at headed (length s) 1 id one hi (stands-left headed (length s) (be8 id) (be8 time) (stands-end s (be8 id ++ be8 time)))

  -- the first timestamp
  first-time : read_be8 (drop 9 headed) ≡ time
  first-time =
      number_at headed (length s + length (be8 id)) 9 time (omega (arith, length-be8 id)) ht
      (stands_right headed (length s) (be8 id) (be8 time) (stands-end s (be8 id ++ be8 time)))

  -- a body of these alone has no entries, as the tag alone has none
  headed-body : (k : BodyType) (es : List Entry) → has_rows k ≡ true → Body k s es → Body k headed es
  unfolding entries
  headed-body k es q y =
      let none : entries k s ≡ got [] 1 = rw (first_one (has_rows k) s one) (entries-end k s (length s) 1 (sym one)) in
      let no : [] ≡ es = cc in
      record {
        begins = (y.begins.0 ++ (be8 id ++ be8 time), ap (λ (l : List ℕ). l ++ (be8 id ++ be8 time)) y.begins.1);
        reads = rw (q, first_rows headed (omega (arith, length-headed)), entries-end k headed (length headed) 17 (sym length-headed)) (rw no (place_same (sym length-headed)));
        firsts = λ r ne. (omega (arith, length-headed), rw first-id hi, rw first-time ht);
      }

  -- a row after them is a later one
  headed-firsts : Firsts headed 17 headed
  headed-firsts = record {
    later = λ z. omega arith;
    id = refl;
    time = refl;
    id-fits = rw first-id hi;
    time-fits = rw first-time ht;
  }

  -- the head of the first row is the first id, the first timestamp, and the head of a later row
  head-headed : (b : List ℕ) → head_bytes b 1 id time ≡ (be8 id ++ be8 time) ++ head_bytes headed 17 id time
  unfolding minus
  head-headed b =
      let zi : minus id (read_be8 (drop 1 headed)) ≡ 0 = rw first-id (omega arith) in
      let zt : minus time (read_be8 (drop 9 headed)) ≡ 0 = rw first-time (omega arith) in
      head_first b 1 id time refl
      ∙ rw (head-later headed 17 id time (λ z. omega arith), zi, zt)
      (sym (append_assoc (be8 id) (be8 time) _))

  -- and so whatever follows the head
  pub after-head : (b x : List ℕ) → head_bytes b 1 id time ++ x ≡ (be8 id ++ be8 time) ++ (head_bytes headed 17 id time ++ x)
  after-head b x = ap (λ (h : List ℕ). h ++ x) (head-headed b) ∙ append_assoc (be8 id ++ be8 time) (head_bytes headed 17 id time) x

  -- so an entry that is these and a later one adds one entry
  headed-added : (b : List ℕ) (es : List Entry) (e : Entry) → has_rows (body_type_for e) ≡ true → Body (body_type_for e) s es → Fits e
      → entry_bytes b 1 e ≡ (be8 id ++ be8 time) ++ entry_bytes headed 17 e → length (entry_bytes b 1 e) < 2 ^ 64
      → Body (body_type_for e) (s ++ entry_bytes b 1 e) (es ++ (e ∷ []))
  headed-added b es e q y fits split h =
      rw (split, ← append_assoc s (be8 id ++ be8 time) (entry_bytes headed 17 e))
      (later headed 17 headed es e (headed-body (body_type_for e) es q y) (λ r. (omega (arith, length-headed), headed-firsts)) fits
      (omega (arith, ap length split, length-append (be8 id ++ be8 time) (entry_bytes headed 17 e))))

-- a first row, of the types with rows
first-added : (b s : List ℕ) (es : List Entry) (e : Entry) → has_rows (body_type_for e) ≡ true → length s ≡ 1 → Body (body_type_for e) s es → Fits e
    → length (entry_bytes b 1 e) < 2 ^ 64 → Body (body_type_for e) (s ++ entry_bytes b 1 e) (es ++ (e ∷ []))
unfolding entry_bytes row_bytes histogram_bytes
first-added b s es (series_entry id ts) q one y fits h = let z : ◌≡◌ {A = ℕ} 0 1 = cc in absurd (omega arith)
first-added b s es (sample_entry id time v) q one y fits h =
    let ht : to_bits time < 2 ^ 64 = to_lt time fits.1 in
    headed-added s one id (to_bits time) fits.0 ht b es (sample_entry id time v) q y fits (after-head s one id (to_bits time) fits.0 ht b (be8 v)) h
first-added b s es (tombstone_entry id min max) q one y fits h = let z : ◌≡◌ {A = ℕ} 0 1 = cc in absurd (omega arith)
first-added b s es (exemplar_entry id time v ts) q one y fits h =
    let ht : to_bits time < 2 ^ 64 = to_lt time fits.1 in
    headed-added s one id (to_bits time) fits.0 ht b es (exemplar_entry id time v ts) q y fits
    (ap (λ (r : List ℕ). r ++ string_list_bytes ts) (after-head s one id (to_bits time) fits.0 ht b (be8 v))
    ∙ append_assoc (be8 id ++ be8 (to_bits time)) _ (string_list_bytes ts)) h
first-added b s es (metadata_entry id metric ts) q one y fits h = let z : ◌≡◌ {A = ℕ} 0 1 = cc in absurd (omega arith)
first-added b s es (histogram_entry k e) q one y fits h =
    let id : ℕ = e.head.id in
    let ht : to_bits e.head.time < 2 ^ 64 = to_lt e.head.time fits.1 in
    headed-added s one id (to_bits e.head.time) fits.0 ht b es (histogram_entry k e) q y fits
    (after-head s one id (to_bits e.head.time) fits.0 ht b (numbers_bytes k e.numbers ++ lists_bytes k e.lists)) h

-- ---- any entry

-- after the u bytes used of a buffer
pub body-added : (b : List ℕ) (u : ℕ) (es : List Entry) (e : Entry) → u ≤ length b → Body (body_type_for e) (take u b) es → Fits e
    → length (entry_bytes b u e) < 2 ^ 64 → Body (body_type_for e) (take u b ++ entry_bytes b u e) (es ++ (e ∷ []))
body-added b u es e l y fits h = go (has_rows (body_type_for e)) (eqb u 1) refl refl
  where
    n : length (take u b) ≡ u
    n = length-take-le u b l

    go : (rows one : Bool) → has_rows (body_type_for e) ≡ rows → eqb u 1 ≡ one → Body (body_type_for e) (take u b ++ entry_bytes b u e) (es ++ (e ∷ []))
    go false one q t = later b u (take u b) es e y (λ r. let z : ◌≡◌ {A = ℕ} 0 1 = cc in absurd (omega arith)) fits h
    go true true q t =
        let one : u ≡ 1 = eqb-true u 1 t in
        let bytes : entry_bytes b u e ≡ entry_bytes b 1 e = ap (λ (m : ℕ). entry_bytes b m e) one in
        rw bytes (first-added b (take u b) es e q (n ∙ one) y fits (rw bytes at h))
    go true false q t =
        let ne : u ≡ 1 → ⊥ = eqb-false u 1 t in
        let f = y.firsts q (rw n ne) in
        let long : 17 ≤ u = rw n at f.0 in
        let kept : (p : ℕ) → p + 8 ≤ u → read_be8 (drop p (take u b)) ≡ read_be8 (drop p b) =
        λ p m. sym (rw (take-append-drop u b) at (be8-kept (take u b) (drop u b) p (rw n m))) in
        let id : read_be8 (drop 1 (take u b)) ≡ read_be8 (drop 1 b) = kept 1 (omega arith) in
        let time : read_be8 (drop 9 (take u b)) ≡ read_be8 (drop 9 b) = kept 9 (omega arith) in
        later b u (take u b) es e y
        (λ r. (
          f.0,
          record { later = ne; id = id; time = time; id-fits = rw id at f.1; time-fits = rw time at f.2 },
        ))
        fits h
