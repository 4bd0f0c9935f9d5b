-- Laws of the types: which byte is the tag of which type, and which of none.
-- Assumes nothing.
use Rattle.std.proofs.Common.{◌≡◌, refl, Bool, true, false, cond, ℕ, eqb, ap, ◌∙◌, arith, ne_eqb, eqb-true}
use Rattle.body_format.specs.declared.BucketKind.TheVariants.{Whole, Float}
use Rattle.body_format.specs.Entries.{BodyType, series, samples, tombstones, exemplars, metadata, histograms, type_byte, known, unknown, body_type_of, rows_known}

-- each type's own tag
pub type_known : (k : BodyType) → body_type_of (type_byte k) ≡ known k
unfolding body_type_of
type_known series = refl
type_known samples = refl
type_known tombstones = refl
type_known exemplars = refl
type_known metadata = refl
type_known (histograms Whole) = refl
type_known (histograms Float) = refl

-- every other byte
pub type_unknown : (b : ℕ) → (b ≡ 1 → ⊥) → (b ≡ 2 → ⊥) → (b ≡ 3 → ⊥) → (b ≡ 4 → ⊥) → (b ≡ 6 → ⊥) → (b ≡ 7 → ⊥) → (b ≡ 8 → ⊥)
    → body_type_of b ≡ unknown
unfolding body_type_of
type_unknown b h1 h2 h3 h4 h6 h7 h8 =
    rw (ne_eqb b 1 h1, ne_eqb b 2 h2, ne_eqb b 3 h3, ne_eqb b 4 h4, ne_eqb b 6 h6, ne_eqb b 7 h7, ne_eqb b 8 h8)

-- of the bytes other than 2, 4 and 7, only 8 is the tag of a type with rows
pub rows-by_eight : (b : ℕ) → (b ≡ 2 → ⊥) → (b ≡ 4 → ⊥) → (b ≡ 7 → ⊥) → eqb b 8 ≡ rows_known (body_type_of b)
unfolding body_type_of
rows-by_eight b h2 h4 h7 =
    rw (ne_eqb b 2 h2, ne_eqb b 4 h4, ne_eqb b 7 h7, body_type_of) (go (eqb b 1) (eqb b 3) (eqb b 6) (eqb b 8) refl refl refl refl)
  where
    go : (t1 t3 t6 t8 : Bool) → eqb b 1 ≡ t1 → eqb b 3 ≡ t3 → eqb b 6 ≡ t6 → eqb b 8 ≡ t8
        → t8 ≡ rows_known (cond t1 (known series) (cond t3 (known tombstones) (cond t6 (known metadata) (cond t8 (known (histograms Float)) unknown))))
    go true t3 t6 false e1 e3 e6 e8 = refl
    go false true t6 false e1 e3 e6 e8 = refl
    go false false true false e1 e3 e6 e8 = refl
    go false false false false e1 e3 e6 e8 = refl
    go false false false true e1 e3 e6 e8 = refl
    go true t3 t6 true e1 e3 e6 e8 = let z : ◌≡◌ {A = ℕ} 1 8 = cc (eqb-true b 1 e1, eqb-true b 8 e8) in absurd (omega arith)
    go false true t6 true e1 e3 e6 e8 = let z : ◌≡◌ {A = ℕ} 3 8 = cc (eqb-true b 3 e3, eqb-true b 8 e8) in absurd (omega arith)
    go false false true true e1 e3 e6 e8 = let z : ◌≡◌ {A = ℕ} 6 8 = cc (eqb-true b 6 e6, eqb-true b 8 e8) in absurd (omega arith)

-- the tag of a known type
pub type_byte_lem : (b : ℕ) (k : BodyType) → body_type_of b ≡ known k → b ≡ type_byte k
unfolding body_type_of
type_byte_lem b k = go (eqb b 1) (eqb b 2) (eqb b 3) (eqb b 4) (eqb b 6) (eqb b 7) (eqb b 8) refl refl refl refl refl refl refl
  where
    go : (t1 t2 t3 t4 t6 t7 t8 : Bool)
        → eqb b 1 ≡ t1 → eqb b 2 ≡ t2 → eqb b 3 ≡ t3 → eqb b 4 ≡ t4 → eqb b 6 ≡ t6 → eqb b 7 ≡ t7 → eqb b 8 ≡ t8
        → cond t1 (known series) (cond t2 (known samples) (cond t3 (known tombstones) (cond t4 (known exemplars) (cond t6 (known metadata)
        (cond t7 (known (histograms Whole)) (cond t8 (known (histograms Float)) unknown)))))) ≡ known k
        → b ≡ type_byte k
    go true t2 t3 t4 t6 t7 t8 e1 e2 e3 e4 e6 e7 e8 h = eqb-true b 1 e1 ∙ ap type_byte (let x : series ≡ k = cc in x)
    go false true t3 t4 t6 t7 t8 e1 e2 e3 e4 e6 e7 e8 h = eqb-true b 2 e2 ∙ ap type_byte (let x : samples ≡ k = cc in x)
    go false false true t4 t6 t7 t8 e1 e2 e3 e4 e6 e7 e8 h = eqb-true b 3 e3 ∙ ap type_byte (let x : tombstones ≡ k = cc in x)
    go false false false true t6 t7 t8 e1 e2 e3 e4 e6 e7 e8 h = eqb-true b 4 e4 ∙ ap type_byte (let x : exemplars ≡ k = cc in x)
    go false false false false true t7 t8 e1 e2 e3 e4 e6 e7 e8 h = eqb-true b 6 e6 ∙ ap type_byte (let x : metadata ≡ k = cc in x)
    go false false false false false true t8 e1 e2 e3 e4 e6 e7 e8 h = eqb-true b 7 e7 ∙ ap type_byte (let x : histograms Whole ≡ k = cc in x)
    go false false false false false false true e1 e2 e3 e4 e6 e7 e8 h = eqb-true b 8 e8 ∙ ap type_byte (let x : histograms Float ≡ k = cc in x)
    go false false false false false false false e1 e2 e3 e4 e6 e7 e8 h = let z : ◌≡◌ {A = ℕ} 0 1 = cc in absurd (omega arith)
