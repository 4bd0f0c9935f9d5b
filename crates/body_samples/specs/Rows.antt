-- How the list is filled, row by row, and that this is what the definition says.
-- Assumes nothing.
use Rattle.std.specs.Prelude.{◌≡◌, Bool, List, [], ◌∷◌, ◌++◌, map, ℕ, zero, suc, ◌+◌, ◌≤◌, pos, length, set}
use Rattle.std.proofs.Math.Path.{refl}
use Rattle.std.proofs.Common.{ap, ◌∙◌, arith, leb-true}
use Rattle.std.proofs.Math.Bool.{true, false, cond}
use Rattle.std.proofs.Math.ListN.{drop}
use Rattle.std.proofs.lemmas.List.{length-map}
use Rattle.std.proofs.lemmas.List.Edits.{sets, sets-eq}
use Rattle.std.proofs.Math.Dec.{leb}
use Rattle.wal_types.specs.declared.Refusal.{Refusal}
use Rattle.wal_types.specs.declared.Refusal.TheVariants.{WrongKind, UnknownType}
use Rattle.wal_types.specs.Terms.{series_id, timestamp}
use Rattle.body_format.specs.declared.EntryView.{EntryView}
use Rattle.body_format.specs.Results.EntryAnswer.{EntryAnswer}
use Rattle.body_format.specs.Results.EntryAnswer.{Found, End, Refused}
use Rattle.body_format.specs.Fields.{Field, got, fault}
use Rattle.body_format.specs.Entries.{Known, known, unknown, body_type_of, series, samples, tombstones, exemplars, metadata, histograms, Entry, series_entry, sample_entry, tombstone_entry, exemplar_entry, metadata_entry, histogram_entry, entries}
use Rattle.body_format.specs.Reading.{view, read_entry}
use Rattle.body_format.specs.Calls.{body_calls, Walks}
use Rattle.body_format.specs.Calls.Walks.{next, done}
use Rattle.body_format.proofs.Laws.Walks.{entries-walk}
use Rattle.body_samples.specs.declared.Sample.{Sample}
use Rattle.body_samples.specs.declared.Row.{Row}
use Rattle.body_samples.specs.Filling.{sample_seen, sample_of, samples_known, samples_in, list_after}

-- ---- rows

abbrev pub no_row : ℕ → Row
no_row p = record { sample = record { id = series_id 0; time = timestamp (pos 0); bits = 0 }; next = p }

abbrev pub row_of : EntryAnswer → ℕ → Row
row_of (Found v) p = record { sample = sample_seen v; next = v.next.0 }
row_of End p = no_row p
row_of (Refused why) p = no_row p

abbrev pub row_at : List ℕ → ℕ → Row
row_at s p = row_of (read_entry s p) p

-- n rows of the body s, the first at place p, into the list l from index i on
unfoldable pub fill_with : ℕ → ℕ → List ℕ → ℕ → List Sample → List Sample
fill_with zero p s i l = l
fill_with (suc n) p s i l = fill_with n (row_at s p).next s (suc i) (set l i (row_at s p).sample)

-- the number of rows filled
abbrev pub fill_count : Field (List Entry) → ℕ → ℕ
fill_count (got es p) room = cond (leb (length es) room) (length es) 0
fill_count (fault why) room = 0

pub count_fits : (x : Field (List Entry)) (room : ℕ) → fill_count x room ≤ room
count_fits (got es p) room = go (leb (length es) room) refl
  where
    go : (t : Bool) → leb (length es) room ≡ t → cond t (length es) 0 ≤ room
    go true e = leb-true (length es) room e
    go false e = omega arith
count_fits (fault why) room = omega arith

-- ---- filling row by row is what the definition says

-- the row of an entry that was read
row-found : (s : List ℕ) (p : ℕ) (e : Entry) (first q : ℕ) → read_entry s p ≡ Found (view e first q)
    → row_at s p ≡ record { sample = sample_of e; next = q }
row-found s p (series_entry id ts) first q h = ap (λ (a : EntryAnswer). row_of a p) h
row-found s p (sample_entry id t v) first q h = ap (λ (a : EntryAnswer). row_of a p) h
row-found s p (tombstone_entry id lo hi) first q h = ap (λ (a : EntryAnswer). row_of a p) h
row-found s p (exemplar_entry id t v ts) first q h = ap (λ (a : EntryAnswer). row_of a p) h
row-found s p (metadata_entry id m ts) first q h = ap (λ (a : EntryAnswer). row_of a p) h
row-found s p (histogram_entry k g) first q h = ap (λ (a : EntryAnswer). row_of a p) h

-- a walk's entries are stored one after the other
walk_fills : (s : List ℕ) {p : ℕ} {es : List Entry} → Walks body_calls s p es → (i : ℕ) (l : List Sample)
    → fill_with (length es) p s i l ≡ sets l i (map sample_of es)
unfolding fill_with
walk_fills s {p} (next {q = q} {e = e} {es = es} first h _ _ w) i l =
    ap (λ (r : Row). fill_with (length es) r.next s (suc i) (set l i r.sample)) (row-found s p e first q h) ∙ walk_fills s w (suc i) (set l i (sample_of e))
walk_fills s (done h) i l = refl

-- stored from the front on, they come before the rest
front : (es : List Entry) (l : List Sample) → length es ≤ length l → sets l 0 (map sample_of es) ≡ map sample_of es ++ drop (length es) l
front es l h =
    let n : 0 + length (map sample_of es) ≡ length es = omega (arith, length-map es sample_of) in
    sets-eq (map sample_of es) l 0 (omega arith) ∙ ap (λ (k : ℕ). map sample_of es ++ drop k l) n

no_fault : {why : Refusal} {es : List Entry} {p : ℕ} → fault why ≡ got es p → ⊥
no_fault e = let z : ◌≡◌ {A = ℕ} 0 1 = cc in omega arith

module _ (s : List ℕ) (l : List Sample) where
  abbrev Filling : Field (List Entry) → Type 0
  Filling x = fill_with (fill_count x (length l)) 1 s 0 l ≡ list_after x l

  walked : (es : List Entry) (p : ℕ) → Walks body_calls s 1 es → Filling (got es p)
  unfolding fill_with
  walked es p w = go (leb (length es) (length l)) refl
    where
      go : (t : Bool) → leb (length es) (length l) ≡ t
          → fill_with (cond t (length es) 0) 1 s 0 l ≡ cond t (map sample_of es ++ drop (length es) l) l
      go true e = walk_fills s w 0 l ∙ front es l (leb-true (length es) (length l) e)
      go false e = refl

  of_walk : (x : Field (List Entry)) → ((es : List Entry) (p : ℕ) → x ≡ got es p → Walks body_calls s 1 es) → Filling x
  unfolding fill_with
  of_walk (got es p) h = walked es p (h es p refl)
  of_walk (fault why) h = refl

pub filled : (s : List ℕ) (l : List Sample) → fill_with (fill_count (samples_in s) (length l)) 1 s 0 l ≡ list_after (samples_in s) l
unfolding samples_in fill_with
filled [] l = refl
filled (b ∷ s) l = go (body_type_of b) refl
  where
    go : (k : Known) → body_type_of b ≡ k → Filling (b ∷ s) l (samples_known k (b ∷ s))
    go (known samples) h = of_walk (b ∷ s) l (entries samples (b ∷ s)) (entries-walk b s samples h)
    go (known series) h = of_walk (b ∷ s) l (fault WrongKind) (λ es p e. absurd (no_fault e))
    go (known tombstones) h = of_walk (b ∷ s) l (fault WrongKind) (λ es p e. absurd (no_fault e))
    go (known exemplars) h = of_walk (b ∷ s) l (fault WrongKind) (λ es p e. absurd (no_fault e))
    go (known metadata) h = of_walk (b ∷ s) l (fault WrongKind) (λ es p e. absurd (no_fault e))
    go (known (histograms k)) h = of_walk (b ∷ s) l (fault WrongKind) (λ es p e. absurd (no_fault e))
    go unknown h = of_walk (b ∷ s) l (fault UnknownType) (λ es p e. absurd (no_fault e))
