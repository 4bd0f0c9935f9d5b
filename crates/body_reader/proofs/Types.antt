-- The type of a body decides what the reading calls answer first.
use Rattle.std.specs.Prelude.{◌≡◌, refl, List, [], ◌∷◌, ℕ, ◌<◌, length}
use Rattle.std.proofs.Common.{sym, ap, ◌∙◌, arith}
use Rattle.wal_types.specs.declared.Refusal.{Refusal}
use Rattle.wal_types.specs.declared.Refusal.TheVariants.{UnknownType, WrongKind}
use Rattle.body_format.specs.declared.BucketKind.{BucketKind}
use Rattle.body_format.specs.Results.CheckAnswer.{Refused as CheckRefused}
use Rattle.body_format.specs.Results.EntryAnswer.{Refused as EntryRefused}
use Rattle.body_format.specs.Results.StringAnswer.{Refused as StringRefused}
use Rattle.body_format.specs.Entries.{BodyType, series, samples, tombstones, exemplars, metadata, histograms}
use Rattle.body_format.specs.Entries.{Known, known, unknown, body_type_of}
use Rattle.body_format.specs.Reading.{check_known, check_body, entry_known, read_entry, string_known, read_string, histograms_only, by_bucket_kind}
use Rattle.body_fields.specs.Laws.{never}
use Rattle.body_reader.specs.declared.tags.BodyLayout.{BodyLayout}
use Rattle.body_reader.specs.declared.tags.BodyLayout.TheVariants.{Rows, Plain, Histograms}
use Rattle.body_reader.specs.Results.KindRead.{KindRead}
use Rattle.body_reader.specs.Results.KindRead as kind
use Rattle.body_reader.specs.Results.TypeRead.{TypeRead}
use Rattle.body_reader.specs.Results.TypeRead as type
use Rattle.body_reader.specs.Layouts.{type_in, type_found, type_read}

-- an answer by the type that was found
abbrev pub by_type : {A : Type 0} → (Refusal → A) → (BodyType → A) → TypeRead → A
by_type r f (type.Known k) = f (type_in k)
by_type r f (type.Refused why) = r why

-- an answer that is f of a known type, and UnknownType of any other byte
same : {A : Type 0} (r : Refusal → A) (f : Known → A) → f unknown ≡ r UnknownType → (n : Known)
    → f n ≡ by_type r (λ k. f (known k)) (type_found n)
same r f e (known series) = refl
same r f e (known samples) = refl
same r f e (known tombstones) = refl
same r f e (known exemplars) = refl
same r f e (known metadata) = refl
same r f e (known (histograms k)) = refl
same r f e unknown = e

pub check_type : (s : List ℕ) → check_body s ≡ by_type CheckRefused (λ k. check_known (known k) s) (type_read s)
unfolding check_body type_read
check_type [] = refl
check_type (b ∷ s) = same CheckRefused (λ n. check_known n (b ∷ s)) refl (body_type_of b)

pub entry_type : (s : List ℕ) (p : ℕ)
    → read_entry s p ≡ by_type EntryRefused (λ k. entry_known (known k) s p) (type_read s)
unfolding read_entry type_read
entry_type [] p = refl
entry_type (b ∷ s) p = same EntryRefused (λ n. entry_known n (b ∷ s) p) refl (body_type_of b)

pub string_type : (s : List ℕ) (p : ℕ)
    → read_string s p ≡ by_type StringRefused (λ k. string_known (known k) s p) (type_read s)
unfolding read_string type_read
string_type [] p = refl
string_type (b ∷ s) p = same StringRefused (λ n. string_known n (b ∷ s) p) refl (body_type_of b)

-- a body with a type has a byte
pub known_some : (s : List ℕ) (r : TypeRead) {k : BodyLayout} → r ≡ type_read s → r ≡ type.Known k → 0 < length s
unfolding type_read
known_some [] r e g = never cc
known_some (b ∷ s) r e g = omega arith

-- ---- calls for histograms alone

-- an answer by the bucket kind, by the type that was found
abbrev by_layout : {A : Type 0} → (Refusal → A) → (BucketKind → A) → BodyLayout → A
by_layout r f (Rows labelled) = r WrongKind
by_layout r f (Plain k) = r WrongKind
by_layout r f (Histograms k) = f k

abbrev by_found : {A : Type 0} → (Refusal → A) → (BucketKind → A) → TypeRead → A
by_found r f (type.Known k) = by_layout r f k
by_found r f (type.Refused why) = r why

by-found : {A : Type 0} (r : Refusal → A) (f : BucketKind → A) (n : Known) → by_found r f (type_found n) ≡ histograms_only r f n
by-found r f (known series) = refl
by-found r f (known samples) = refl
by-found r f (known tombstones) = refl
by-found r f (known exemplars) = refl
by-found r f (known metadata) = refl
by-found r f (known (histograms k)) = refl
by-found r f unknown = refl

by_kind : {A : Type 0} (r : Refusal → A) (f : BucketKind → A) (s : List ℕ) → by_found r f (type_read s) ≡ by_bucket_kind r f s
unfolding by_bucket_kind type_read
by_kind r f [] = refl
by_kind r f (b ∷ s) = by-found r f (body_type_of b)

-- in a body of a known type, and in one that is refused
pub kind_layout : {A : Type 0} (r : Refusal → A) (f : BucketKind → A) (s : List ℕ) {t : TypeRead} {l m : BodyLayout}
    → t ≡ type_read s → t ≡ type.Known l → l ≡ m → by_layout r f m ≡ by_bucket_kind r f s
kind_layout r f s read g h = ap (by_layout r f) (sym h) ∙ ap (by_found r f) (sym g ∙ read) ∙ by_kind r f s

pub kind_other : {A : Type 0} (r : Refusal → A) (f : BucketKind → A) (s : List ℕ) {t : TypeRead} {l : BodyLayout}
    → t ≡ type_read s → t ≡ type.Known l → ((k : BucketKind) → l ≡ Histograms k → ⊥) → r WrongKind ≡ by_bucket_kind r f s
kind_other r f s {t} {l} read g h = other l h ∙ kind_layout r f s read g refl
  where
    other : (m : BodyLayout) → ((k : BucketKind) → m ≡ Histograms k → ⊥) → r WrongKind ≡ by_layout r f m
    other (Rows labelled) h = refl
    other (Plain k) h = refl
    other (Histograms k) h = absurd (h k refl)

pub kind-refused : {A : Type 0} (r : Refusal → A) (f : BucketKind → A) (s : List ℕ) {t : TypeRead} {why : Refusal}
    → t ≡ type_read s → t ≡ type.Refused why → r why ≡ by_bucket_kind r f s
kind-refused r f s read g = ap (by_found r f) (sym g ∙ read) ∙ by_kind r f s

-- an answer by the bucket kind that was read
abbrev with_type_read : {A : Type 0} → (Refusal → A) → (BucketKind → A) → KindRead → A
with_type_read r f (kind.Known k) = f k
with_type_read r f (kind.Refused why) = r why

by_read : {A : Type 0} (r : Refusal → A) (f : BucketKind → A) (s : List ℕ) → with_type_read r f (by_bucket_kind kind.Refused kind.Known s) ≡ by_bucket_kind r f s
by_read r f s = sym (ap (with_type_read r f) (by_kind kind.Refused kind.Known s)) ∙ go (type_read s) ∙ by_kind r f s
  where
    in_layout : (l : BodyLayout) → with_type_read r f (by_layout kind.Refused kind.Known l) ≡ by_layout r f l
    in_layout (Rows labelled) = refl
    in_layout (Plain k) = refl
    in_layout (Histograms k) = refl

    go : (t : TypeRead) → with_type_read r f (by_found kind.Refused kind.Known t) ≡ by_found r f t
    go (type.Known l) = in_layout l
    go (type.Refused why) = refl

-- what was read decides
pub read_known : {A : Type 0} (r : Refusal → A) (f : BucketKind → A) (s : List ℕ) {t : KindRead} {k : BucketKind}
    → t ≡ by_bucket_kind kind.Refused kind.Known s → t ≡ kind.Known k → f k ≡ by_bucket_kind r f s
read_known r f s e g = ap (with_type_read r f) (sym g ∙ e) ∙ by_read r f s

pub read-refused : {A : Type 0} (r : Refusal → A) (f : BucketKind → A) (s : List ℕ) {t : KindRead} {why : Refusal}
    → t ≡ by_bucket_kind kind.Refused kind.Known s → t ≡ kind.Refused why → r why ≡ by_bucket_kind r f s
read-refused r f s e g = ap (with_type_read r f) (sym g ∙ e) ∙ by_read r f s
