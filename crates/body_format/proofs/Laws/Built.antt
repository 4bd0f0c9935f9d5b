-- Laws of lists of additions: whatever is added to a started body, refused or not, the body reads
-- back as the entries that were put in.
-- Assumes nothing.
use Rattle.std.proofs.Common.{◌≡◌, false, ℕ, ◌≤◌, length, take, refl, List, [], ◌∷◌, ◌++◌, sym, ap, ◌∙◌, arith, append_assoc, append-nil}
use Rattle.std.proofs.lemmas.List.Edits.{sets}
use Rattle.std.proofs.Math.Seq.{length-sets}
use Rattle.body_format.specs.Results.CheckAnswer.{Entries}
use Rattle.body_format.specs.Entries.{BodyType, type_byte, Known, known, unknown, body_type_of, has_rows, Entry, body_type_for, entries}
use Rattle.body_format.specs.Reading.{check_body}
use Rattle.body_format.specs.Building.{entry_bytes, Outcome, used, refused, start_known, start, start_bytes, add, add_bytes}
use Rattle.body_format.specs.Calls.{Addition, add_series, add_sample, add_tombstone, add_exemplar, add_metadata, add_histogram, entry_for, list_is_bad, builder, used_then, final_buffer, final_used, with_entry, added, body_calls, Walks}
use Rattle.body_format.specs.Claims.{InRange, AllInRange}
use Rattle.body_format.proofs.Laws.Types.{type_known, type_byte_lem}
use Rattle.body_format.proofs.Laws.Lists.{entries-end, first_one}
use Rattle.body_format.proofs.Laws.Strings.{even_list}
use Rattle.body_format.proofs.Laws.Entries.{Fits}
use Rattle.body_format.proofs.Laws.Additions.{Accepted, accepted, sets_upto}
use Rattle.body_format.proofs.Laws.Bodies.{Body, body-added}
use Rattle.body_format.proofs.Laws.Walks.{entries-walk}

-- ---- what is known of a body

-- the check counts as many entries as the body has
pub body_checks : (k : BodyType) (s : List ℕ) (es : List Entry) → Body k s es → check_body s ≡ Entries (length es)
unfolding check_body
body_checks k [] es y = absurd (omega (arith, ap length y.begins.1))
body_checks k (c ∷ s) es y =
    let type : c ≡ type_byte k = let e = y.begins.1 in cc in
    rw (ap body_type_of type ∙ type_known k, y.reads)

-- and a walk gives them
pub body-walks : (k : BodyType) (s : List ℕ) (es : List Entry) → Body k s es → Walks body_calls s 1 es
body-walks k [] es y = absurd (omega (arith, ap length y.begins.1))
body-walks k (c ∷ s) es y =
    let type : c ≡ type_byte k = let e = y.begins.1 in cc in
    entries-walk c s k (ap body_type_of type ∙ type_known k) es (length (c ∷ s)) y.reads

-- ---- a started body

-- the tag alone has no entries
type_alone : (k : BodyType) → Body k (type_byte k ∷ []) []
unfolding entries
type_alone k = record {
  begins = ([], refl);
  reads = rw (first_one (has_rows k) (type_byte k ∷ []) refl) (entries-end k (type_byte k ∷ []) 1 1 refl);
  firsts = λ q ne. absurd (ne refl);
}

-- a started body has its tag and no entries
pub started : (b : List ℕ) (t : ℕ) → start b t ≡ used 1
    → (k : BodyType) × (t ≡ type_byte k) × (1 ≤ length (start_bytes (start b t) b t)) × Body k (take 1 (start_bytes (start b t) b t)) []
unfolding start
started b t e = go (body_type_of t) refl b e
  where
    go : (x : Known) → body_type_of t ≡ x → (c : List ℕ) → start_known x c ≡ used 1
        → (k : BodyType) × (t ≡ type_byte k) × (1 ≤ length (start_bytes (start_known x c) c t)) × Body k (take 1 (start_bytes (start_known x c) c t)) []
    go (known k) h [] i = let z : ◌≡◌ {A = ℕ} 0 1 = cc in absurd (omega arith)
    go (known k) h (a ∷ c) i = rw i (k, type_byte_lem t k h, omega arith, rw (type_byte_lem t k h) (type_alone k))
    go unknown h c i = let z : ◌≡◌ {A = ℕ} 0 1 = cc in absurd (omega arith)

-- ---- additions

-- an addition that is not a BadList, and whose numbers have 64 bits, has an entry that fits
fits : (a : Addition) → InRange a → list_is_bad a ≡ false → Fits (entry_for a)
fits (add_series id bytes lengths) h e = (h, even_list bytes lengths e)
fits (add_sample id time v) h e = h
fits (add_tombstone id min max) h e = h
fits (add_exemplar id time v bytes lengths) h e = (h.0, h.1, h.2, even_list bytes lengths e)
fits (add_metadata id metric bytes lengths) h e = (h.0, even_list bytes lengths e)
fits (add_histogram k head n l) h e = h

module _ (t : ℕ) (k : BodyType) (type : t ≡ type_byte k) where
  -- an addition hands back the state with one entry more (FORMAT 10.3), also where the body was not
  -- built here (`readable`)
  pub one_more : (b : List ℕ) (u n : ℕ) (es : List Entry) (a : Addition) → InRange a → u ≤ length b → Body k (take u b) es
      → add b t u (entry_for a) (list_is_bad a) ≡ used n
      → Body k (take n (sets b u (entry_bytes b u (entry_for a)))) (es ++ (entry_for a ∷ []))
  one_more b u n es a h l y e =
      let x : List ℕ = entry_bytes b u (entry_for a) in
      let w : Accepted b t u (entry_for a) (list_is_bad a) n = accepted b t u (entry_for a) (list_is_bad a) n e in
      let same : known (body_type_for (entry_for a)) ≡ known k = sym (type_known (body_type_for (entry_for a))) ∙ ap body_type_of (sym w.tag ∙ type) ∙ type_known k in
      let tag : body_type_for (entry_for a) ≡ k = cc in
      rw (w.size, sets_upto b x u (omega arith), ← tag)
      (body-added b u es (entry_for a) l (rw tag y) (fits a h w.list) (omega arith))

  -- a list of additions, each with the state last handed back
  pub built : (xs : List Addition) (b : List ℕ) (u : ℕ) (es : List Entry) → AllInRange xs → u ≤ length b → Body k (take u b) es
      → Body k (take (final_used builder t b u xs) (final_buffer builder t b u xs)) (es ++ added builder t b u xs)
  unfolding final_used final_buffer added
  built [] b u es h l y = rw append-nil y
  built (a ∷ xs) b u es h l y = go (add b t u (entry_for a) (list_is_bad a)) refl (built xs)
    where
      e : Entry
      e = entry_for a

      go : (o : Outcome) → add b t u (entry_for a) (list_is_bad a) ≡ o
          → ((c : List ℕ) (m : ℕ) (ds : List Entry) → AllInRange xs → m ≤ length c → Body k (take m c) ds
          → Body k (take (final_used builder t c m xs) (final_buffer builder t c m xs)) (ds ++ added builder t c m xs))
          → Body k (take (final_used builder t (add_bytes o b u e) (used_then o u) xs) (final_buffer builder t (add_bytes o b u e) (used_then o u) xs))
          (es ++ with_entry o e (added builder t (add_bytes o b u e) (used_then o u) xs))
      go (used n) q ih =
          let c : List ℕ = sets b u (entry_bytes b u e) in
          let room : n ≤ length b = (accepted b t u e (list_is_bad a) n q).room in
          rw (← append_assoc es (e ∷ []) (added builder t c n xs))
          (ih c n (es ++ (e ∷ [])) h.1 (rw length-sets room) (one_more b u n es a h.0 l y q))
      go (refused why) q ih = ih b u es h.1 l y
