-- Laws of the zigzag and the varint: each way of the zigzag undoes the other, bounds, and that
-- decoding undoes encoding.
use Rattle.std.specs.Prelude.{ℕ, ◌+◌, ◌*◌, ◌%◌, ◌^◌, ◌<◌, Bool, true, false, List, ◌++◌, ◌≡◌, refl, eqb, ℤ, pos, negsuc, length, Err}
use Rattle.std.proofs.Common.{sym, ap, ◌∙◌, arith, eq-eqb, ne_eqb, eqb-true}
use Rattle.std.proofs.lemmas.Bool.{eqb-false}
use Rattle.std.specs.Int.Signed.{mag}
use Rattle.uvarint.specs.Results.UvarintRead.{UvarintRead}
use Rattle.uvarint.specs.Results.UvarintRead as unsigned
use Rattle.uvarint.specs.declared.VarintError.{VarintError}
use Rattle.uvarint.specs.declared.VarintError.TheVariants as error
use Rattle.varint.specs.Results.VarintRead.{Value, Short}
use Rattle.uvarint.specs.Uvarint.{read_uvarint}
use Rattle.uvarint.specs.UvarintLaws.{Taken, taken, read-uvarint, append-read}
use Rattle.varint.specs.Varint.{zigzag, unzigzag, varint, signed, read_varint}

-- The zigzag. `mag` of n and of −(n + 1) is n, so the `mag` of an i64 is below 2 ^ 63.

pub unzigzag-zigzag : (x : ℤ) → unzigzag (zigzag x) ≡ x
unfolding zigzag unzigzag
unzigzag-zigzag (pos n) = rw (eq-eqb (n * 2 % 2) 0 (omega arith), unzigzag) (ap pos (omega arith))
unzigzag-zigzag (negsuc n) = rw (ne_eqb ((n * 2 + 1) % 2) 0 (omega arith), unzigzag) (ap negsuc (omega arith))

pub zigzag-unzigzag : (u : ℕ) → zigzag (unzigzag u) ≡ u
unfolding zigzag unzigzag
zigzag-unzigzag u = go (eqb (u % 2) 0) refl
  where
    go : (t : Bool) → eqb (u % 2) 0 ≡ t → zigzag (unzigzag u) ≡ u
    go true e = let h : u % 2 ≡ 0 = eqb-true (u % 2) 0 e in rw (e, unzigzag) (omega arith)
    go false e = let h : u % 2 ≡ 0 → ⊥ = eqb-false (u % 2) 0 e in rw (e, unzigzag) (omega arith)

-- an i64 gives a u64, and the other way round
pub zigzag-fits : (x : ℤ) → mag x < 2 ^ 63 → zigzag x < 2 ^ 64
unfolding zigzag
zigzag-fits (pos n) h = omega arith
zigzag-fits (negsuc n) h = omega arith

pub unzigzag-fits : (u : ℕ) → u < 2 ^ 64 → mag (unzigzag u) < 2 ^ 63
unfolding unzigzag
unzigzag-fits u h = go (eqb (u % 2) 0) refl
  where
    go : (t : Bool) → eqb (u % 2) 0 ≡ t → mag (unzigzag u) < 2 ^ 63
    go true e = rw (e, unzigzag) (omega arith)
    go false e = rw (e, unzigzag) (omega arith)

-- The varint.

-- every i64, whatever follows it
pub read-varint : (x : ℤ) (rest : List ℕ) → mag x < 2 ^ 63 → read_varint (varint x ++ rest) ≡ Value x (length (varint x))
unfolding varint read_varint signed
read-varint x rest h = rw (read-uvarint (zigzag x) rest (zigzag-fits x h), signed, unzigzag-zigzag)

-- an error of the uvarint is that of the varint
pub signed-err : (e : VarintError) → signed (Err e) ≡ Err e
unfolding signed
signed-err error.Short = refl
signed-err error.BadVarint = refl

-- a varint that was decoded: its zigzag is a uvarint that was decoded, and it is an i64
pub taken-varint : (s : List ℕ) (x : ℤ) (len : ℕ) → read_varint s ≡ Value x len → Taken s (zigzag x) len × (mag x < 2 ^ 63)
unfolding read_varint signed
taken-varint s x len e = go (read_uvarint s) refl e
  where
    go : (r : UvarintRead) → read_uvarint s ≡ r → signed r ≡ Value x len → Taken s (zigzag x) len × (mag x < 2 ^ 63)
    go (unsigned.Value n k) p q =
        let v : ◌≡◌ {A = ℤ × ℕ} (unzigzag n, k) (x, len) = cc in
        let u : unzigzag n ≡ x = ap (λ (w : ℤ × ℕ). w.0) v in
        let l : k ≡ len = ap (λ (w : ℤ × ℕ). w.1) v in
        let z : n ≡ zigzag x = sym (zigzag-unzigzag n) ∙ ap zigzag u in
        let t : Taken s n k = taken s n k p in
        (rw (← z, ← l) t, rw (← u) (unzigzag-fits n t.fits))
    go unsigned.Short p q = let z : ◌≡◌ {A = ℕ} 0 1 = cc in absurd (omega arith)
    go unsigned.BadVarint p q = let z : ◌≡◌ {A = ℕ} 0 1 = cc in absurd (omega arith)

-- bytes that follow change no answer but Short
pub append-read-varint : (s t : List ℕ) → (read_varint s ≡ Short → ⊥) → read_varint (s ++ t) ≡ read_varint s
unfolding read_varint signed
append-read-varint s t h = ap signed (append-read s t (λ q. h (ap signed q)))

pub append-value-varint : (s t : List ℕ) (x : ℤ) (len : ℕ) → read_varint s ≡ Value x len → read_varint (s ++ t) ≡ Value x len
append-value-varint s t x len e = append-read-varint s t (λ q. never (sym e ∙ q)) ∙ e
  where
    never : Value x len ≡ Short → ⊥
    never p = let z : ◌≡◌ {A = ℕ} 0 1 = cc in omega arith
