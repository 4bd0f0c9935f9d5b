-- The count of a body's samples by its type, and what is planned for a count.
-- Assumes nothing.
use Rattle.std.specs.Prelude.{◌≡◌, refl, Bool, true, false, cond, List, [], ◌∷◌, ◌++◌, ℕ, ◌≤◌, ◌<◌, length, take, drop, map, leb}
use Rattle.std.proofs.Common.{sym, ap, ◌∙◌, arith}
use Rattle.std.proofs.lemmas.Bool.{leb-true, le-leb, lt-leb}
use Rattle.std.proofs.lemmas.List.{append-nil, length-take-le, drop_all}
use Rattle.wal_types.specs.declared.Refusal.{Refusal}
use Rattle.wal_types.specs.declared.Refusal.TheVariants.{WrongKind, ListFull}
use Rattle.body_format.specs.Results.CheckAnswer.{CheckAnswer}
use Rattle.body_format.specs.Results.CheckAnswer.{Entries, Refused as CheckRefused}
use Rattle.body_format.specs.Fields.{Field, got, fault}
use Rattle.body_format.specs.Entries.{Known, known, unknown, body_type_of, series, samples, tombstones, exemplars, metadata, histograms, Entry}
use Rattle.body_format.specs.Reading.{check_fields, check_known}
use Rattle.body_reader.specs.declared.tags.BodyLayout.{BodyLayout}
use Rattle.body_reader.specs.declared.tags.BodyLayout.TheVariants.{Rows, Plain, Histograms}
use Rattle.body_reader.specs.Results.TypeRead.{TypeRead}
use Rattle.body_reader.specs.Results.TypeRead as type
use Rattle.body_reader.specs.Layouts.{type_found, type_read}
use Rattle.body_samples.specs.declared.Sample.{Sample}
use Rattle.body_samples.specs.Results.FillAnswer.{Filled, Refused}
use Rattle.body_samples.specs.Filling.{sample_of, samples_known, samples_in, fill_answer, list_after}
use Rattle.body_samples.specs.Rows.{fill_with, fill_count, filled}

-- ---- the type

-- the count of a body's samples, by the type that was found
abbrev samples_layout : List ℕ → TypeRead → CheckAnswer
samples_layout s (type.Known (Rows false)) = check_known (known samples) s
samples_layout s (type.Known (Rows true)) = CheckRefused WrongKind
samples_layout s (type.Known (Plain k)) = CheckRefused WrongKind
samples_layout s (type.Known (Histograms k)) = CheckRefused WrongKind
samples_layout s (type.Refused why) = CheckRefused why

samples_type : (s : List ℕ) → samples_layout s (type_read s) ≡ check_fields (samples_in s)
unfolding type_read samples_in
samples_type [] = refl
samples_type (b ∷ s) = go (body_type_of b)
  where
    go : (n : Known) → samples_layout (b ∷ s) (type_found n) ≡ check_fields (samples_known n (b ∷ s))
    go (known series) = refl
    go (known samples) = refl
    go (known tombstones) = refl
    go (known exemplars) = refl
    go (known metadata) = refl
    go (known (histograms k)) = refl
    go unknown = refl

module _ (s : List ℕ) {r : TypeRead} (e : r ≡ type_read s) where
  pub by_layout : {l m : BodyLayout} → r ≡ type.Known l → l ≡ m → samples_layout s (type.Known m) ≡ check_fields (samples_in s)
  by_layout g h = ap (λ k. samples_layout s (type.Known k)) (sym h) ∙ ap (samples_layout s) (sym g ∙ e) ∙ samples_type s

  pub no_samples : {l : BodyLayout} → r ≡ type.Known l → (l ≡ Rows false → ⊥) → CheckRefused WrongKind ≡ check_fields (samples_in s)
  no_samples {l} g h = other l h ∙ by_layout g refl
    where
      other : (m : BodyLayout) → (m ≡ Rows false → ⊥) → CheckRefused WrongKind ≡ samples_layout s (type.Known m)
      other (Rows false) h = absurd (h refl)
      other (Rows true) h = refl
      other (Plain k) h = refl
      other (Histograms k) h = refl

  pub untyped : {why : Refusal} → r ≡ type.Refused why → CheckRefused why ≡ check_fields (samples_in s)
  untyped g = ap (samples_layout s) (sym g ∙ e) ∙ samples_type s

-- ---- the plan

abbrev count_of : CheckAnswer → ℕ
count_of (Entries n) = n
count_of (CheckRefused why) = 0

pub fits : (x : Field (List Entry)) (n room : ℕ) → check_fields x ≡ Entries n → n ≤ room → Filled n ≡ fill_answer x room
fits (got es p) n room e h = let l : length es ≡ n = ap count_of e in rw (le-leb (length es) room (omega arith)) (ap Filled (sym l))
fits (fault why) n room e h = let z : ◌≡◌ {A = ℕ} 0 1 = cc in absurd (omega arith)

pub full : (x : Field (List Entry)) (n room : ℕ) → check_fields x ≡ Entries n → room < n → Refused ListFull ≡ fill_answer x room
full (got es p) n room e h = let l : length es ≡ n = ap count_of e in rw (lt-leb (length es) room (omega arith))
full (fault why) n room e h = let z : ◌≡◌ {A = ℕ} 0 1 = cc in absurd (omega arith)

pub bad : (x : Field (List Entry)) (why : Refusal) (room : ℕ) → check_fields x ≡ CheckRefused why → Refused why ≡ fill_answer x room
bad (got es p) why room e = let z : ◌≡◌ {A = ℕ} 0 1 = cc in absurd (omega arith)
bad (fault was) why room e = cc

-- filling the front alone, and the rest as it was
pub front_filled : (s : List ℕ) (l : List Sample) (n : ℕ) → Filled n ≡ fill_answer (samples_in s) (length l)
    → fill_with (length (take n l)) 1 s 0 (take n l) ++ drop n l ≡ list_after (samples_in s) l
front_filled s l n e = go (samples_in s) e (filled s (take n l))
  where
    one : (es : List Entry) (t : Bool) → leb (length es) (length l) ≡ t
        → Filled n ≡ cond t (Filled (length es)) (Refused ListFull)
        → fill_with (cond (leb (length es) (length (take n l))) (length es) 0) 1 s 0 (take n l)
        ≡ cond (leb (length es) (length (take n l))) (map sample_of es ++ drop (length es) (take n l)) (take n l)
        → fill_with (length (take n l)) 1 s 0 (take n l) ++ drop n l ≡ cond t (map sample_of es ++ drop (length es) l) l
    one es true h e f =
        let m : n ≡ length es = cc in
        let k : length (take n l) ≡ n = length-take-le n l (omega (arith, leb-true (length es) (length l) h)) in
        let g = rw (le-leb (length es) (length (take n l)) (omega arith)) at f in
        let none : drop (length es) (take n l) ≡ [] = drop_all (length es) (take n l) (omega arith) in
        ap (λ i. fill_with i 1 s 0 (take n l) ++ drop n l) (k ∙ m)
        ∙ ap (λ r. r ++ drop n l) (g ∙ ap (λ r. map sample_of es ++ r) none ∙ append-nil (map sample_of es))
        ∙ ap (λ i. map sample_of es ++ drop i l) m
    one es false h e f = let z : ◌≡◌ {A = ℕ} 0 1 = cc in absurd (omega arith)

    go : (x : Field (List Entry)) → Filled n ≡ fill_answer x (length l)
        → fill_with (fill_count x (length (take n l))) 1 s 0 (take n l) ≡ list_after x (take n l)
        → fill_with (length (take n l)) 1 s 0 (take n l) ++ drop n l ≡ list_after x l
    go (got es p) e f = one es (leb (length es) (length l)) refl e f
    go (fault why) e f = let z : ◌≡◌ {A = ℕ} 0 1 = cc in absurd (omega arith)

-- after a refusal the list is as it was
pub unfilled : (x : Field (List Entry)) (l : List Sample) {why : Refusal} → Refused why ≡ fill_answer x (length l) → l ≡ list_after x l
unfilled (got es p) l {why} e = go (leb (length es) (length l)) e
  where
    go : (t : Bool) → Refused why ≡ cond t (Filled (length es)) (Refused ListFull) → l ≡ cond t (map sample_of es ++ drop (length es) l) l
    go true e = let z : ◌≡◌ {A = ℕ} 0 1 = cc in absurd (omega arith)
    go false e = refl
unfilled (fault was) l e = refl
