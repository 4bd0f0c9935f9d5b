-- Laws: where two checksums differ on every fragment, what is written with one is BadSum at its first
-- fragment when it is read with the other.
use Rattle.std.specs.Prelude.{◌≡◌, Bool, cond, drop, ltb}
use Rattle.std.proofs.Math.Path.{refl, sym, ap}
use Rattle.std.proofs.Common.{◌∙◌, arith, take-append-drop, List, [], ◌∷◌, ◌++◌, append_assoc, ℕ, zero, suc, ◌+◌, ◌*◌, ◌-◌, ◌/◌, ◌%◌, ◌≤◌, ◌<◌, le-ltb, leb-true, leb-false, ne_eqb}
use Rattle.std.proofs.Math.Bool.{true, false}
use Rattle.std.proofs.Math.ListN.{length, take, length-append}
use Rattle.std.proofs.Math.Seq.{take-append_seam, take-take, take_at, length-take-le}
use Rattle.std.proofs.Math.Dec.{leb}
use Rattle.big_endian.specs.Fixed.{read_be2, read_be4}
use Rattle.wal_types.specs.declared.Refusal.TheVariants.{BadSum}
use Rattle.wal_types.specs.Terms.{offset}
use Rattle.wal_types.specs.Sizes.{segment_limit}
use Rattle.segment_format.specs.Results.ReadAnswer.{Refused}
use Rattle.segment_format.specs.Reading.{closed, bad, short, is_hollow, sized, filled, typed, step, refused, on_step, run}
use Rattle.segment_format.specs.Writing.{fragment, kind, split, fragments, filler, fragment_bytes, fragments_bytes, encode, encode_padded, place_after, next_place}
use Rattle.segment_format.specs.Calls.{Delivered, delivered, reader, Gives, survivors}
use Rattle.segment_format.proofs.Laws.Pages.{window-at}
use Rattle.segment_format.proofs.Laws.Steps.{run_step}
use Rattle.segment_format.proofs.Laws.Fragments.{length-fragment_bytes, encode-place, next_place-moved}
use Rattle.segment_format.proofs.Laws.RoundTrip.{be4_of, Filled, some_data}
use Rattle.segment_format.proofs.Laws.Reads.{final, finds-gives}
use Rattle.segment_format.proofs.Laws.Writes.{after-put, Log, none, wrote, log-before, none_survive}

be2_of : (n : ℕ) (w : List ℕ) → read_be2 (n / 256 ∷ n % 256 ∷ w) ≡ n
unfolding read_be2
be2_of n w = omega arith

-- ---- the bytes of a record begin with a fragment of one of two kinds

-- the first fragment of record d at the start of a page, and the bytes after it
pub record FirstOf (sum : ℕ → List ℕ → ℕ) (bytes : List ℕ) : Type 0 where
  pub ends : Bool
  pub part : List ℕ
  pub rest : List ℕ
  pub small : length part ≤ 32761
  pub some : Filled ends part
  pub begins : bytes ≡ fragment_bytes sum (fragment (kind true ends) part) ++ rest

module _ (sum : ℕ → List ℕ → ℕ) where
  split-first : (n : ℕ) (d : List ℕ) → 1 ≤ length d → length d ≤ 32761 + 32761 * n → FirstOf sum (fragments_bytes sum (split n 32768 true d))
  unfolding split fragments_bytes
  split-first zero d h l = record { ends = true; part = d; rest = []; small = omega arith; some = h; begins = refl }
  split-first (suc n) d h l = go (leb (length d) 32761) refl
    where
      go : (t : Bool) → leb (length d) 32761 ≡ t
          → FirstOf sum (fragments_bytes sum (cond t (fragment (kind true true) d ∷ []) (fragment (kind true false) (take 32761 d) ∷ split n 32768 false (drop 32761 d))))
      go true e = record { ends = true; part = d; rest = []; small = leb-true (length d) 32761 e; some = h; begins = refl }
      go false e = record {
        ends = false;
        part = take 32761 d;
        rest = fragments_bytes sum (split n 32768 false (drop 32761 d));
        small = omega (arith, length-take-le 32761 d (omega (arith, leb-false (length d) 32761 e)));
        some = tt;
        begins = refl;
      }

  record-first : (d : List ℕ) → 1 ≤ length d → FirstOf sum (encode sum 0 d)
  unfolding encode fragments
  record-first d h = split-first (length d) d h (omega arith)

  -- ---- the bytes of a list of writes begin with a record

  -- where a record lies wholly before cut c, the bytes before c begin, from place p on, with one
  log-first : {s t : List ℕ} {p q : ℕ} {ws : List Delivered} (c : ℕ) → Log sum s p t q ws → (survivors c ws ≡ [] → ⊥)
      → (d : List ℕ) × (rest : List ℕ) × (1 ≤ length d) × (take c t ≡ take p s ++ (encode sum p d ++ rest))
  unfolding survivors encode_padded
  log-first c none some = absurd (some refl)
  log-first {s} {t} {p} c (wrote {d = d} {ws = ws} r k) some = go (leb (place_after p d) c) refl some
    where
      front : place_after p d ≤ c → take (place_after p d) (take c t) ≡ take p s ++ encode sum p d
      front h =
          let q : ℕ = place_after p d in
          let x : List ℕ = encode sum p d in
          let n : length (take p s ++ x) ≡ q =
          omega (arith, length-append (take p s) x, length-take-le p s (omega (arith, r.inside)), encode-place sum p d) in
          take-take q c t h
          ∙ sym (take-take q (next_place p d) t (next_place-moved p d))
          ∙ ap (take q) (log-before sum k ∙ after-put sum s p d r ∙ sym (append_assoc (take p s) x (filler (p + length x))))
          ∙ take_at (take p s ++ x) (filler (p + length x)) q n

      go : (b : Bool) → leb (place_after p d) c ≡ b
          → (cond b (delivered p (length d) d (place_after p d) ∷ survivors c ws) (survivors c ws) ≡ [] → ⊥)
          → (d : List ℕ) × (rest : List ℕ) × (1 ≤ length d) × (take c t ≡ take p s ++ (encode sum p d ++ rest))
      go true e some =
          let h : place_after p d ≤ c = leb-true (place_after p d) c e in
          let rest : List ℕ = drop (place_after p d) (take c t) in (
            d,
            rest,
            r.some,
            sym (take-append-drop (place_after p d) (take c t)) ∙ ap (λ (l : List ℕ). l ++ rest) (front h) ∙ append_assoc (take p s) (encode sum p d) rest,
          )
      go false e some = absurd (some (none_survive sum c k (omega (arith, leb-false (place_after p d) c e, next_place-moved p d))))

-- ---- a read with the other checksum

module _ (sum sum' : ℕ → List ℕ → ℕ) (differ : (b : ℕ) (d : List ℕ) → b < 256 → sum b d ≡ sum' b d → ⊥) where
  sized-other : (b : ℕ) (d v : List ℕ) → b < 256 → length d ≤ 32761 → sized sum' 32768 0 b (length d) (sum b d) (d ++ v) ≡ bad BadSum 0
  unfolding sized
  sized-other b d v hb h =
      rw (
        le-ltb 32768 (7 + length d) (omega arith),
        le-ltb 65536 (0 + length d) (omega arith),
        le-ltb (length (d ++ v)) (length d) (omega (arith, length-append d v)),
        take-append_seam d v,
        ne_eqb (sum b d) (sum' b d) (differ b d hb),
      )

  headed-other : (b : ℕ) (d v : List ℕ) → b < 256 → length d ≤ 32761 → is_hollow b (length d) ≡ false
      → cond (ltb (suc (suc (suc (suc (suc (suc (length (d ++ v)))))))) 6) short
      (filled sum' 32768 0 b
      (read_be2 (length d / 256 ∷ length d % 256 ∷ sum b d / 16777216 ∷ sum b d / 65536 % 256 ∷ sum b d / 256 % 256 ∷ sum b d % 256 ∷ (d ++ v)))
      (read_be4 (sum b d / 16777216 ∷ sum b d / 65536 % 256 ∷ sum b d / 256 % 256 ∷ sum b d % 256 ∷ (d ++ v)))
      (d ++ v))
      ≡ bad BadSum 0
  unfolding filled
  headed-other b d v hb h f =
      rw (le-ltb (suc (suc (suc (suc (suc (suc (length (d ++ v)))))))) 6 (omega arith), be2_of (length d), be4_of (sum b d), f)
      (sized-other b d v hb h)

  step_other : (e : Bool) (d v : List ℕ) → length d ≤ 32761 → Filled e d
      → step sum' 32768 false 0 (fragment_bytes sum (fragment (kind true e) d) ++ v) ≡ bad BadSum 0
  unfolding step typed fragment_bytes
  step_other true d v h f = headed-other 1 d v (omega arith) h (some_data 1 d f)
  step_other false d v h f = headed-other 2 d v (omega arith) h refl

  -- bytes that begin with such a fragment
  run-other : (bytes t : List ℕ) → FirstOf sum bytes → run sum' (bytes ++ t) 0 closed ≡ refused (BadSum (offset 0))
  run-other bytes t f =
      let x : List ℕ = fragment_bytes sum (fragment (kind true f.ends) f.part) in
      let s : List ℕ = bytes ++ t in
      let es : s ≡ x ++ (f.rest ++ t) = ap (λ (l : List ℕ). l ++ t) f.begins ∙ append_assoc x f.rest t in
      run_step sum' s 0 closed
      ∙ ap (on_step (λ q o. run sum' s q o) 0 closed)
      (ap (step sum' 32768 false 0)
      (window-at s [] x (f.rest ++ t) 0 es refl (omega (arith, length-fragment_bytes sum (kind true f.ends) f.part, f.small)))
      ∙ step_other f.ends f.part (take (32768 - length x) (f.rest ++ t)) f.small f.some)

  -- a list of writes, cut, and any bytes after it
  pub log-refused : {s t : List ℕ} {q : ℕ} {ws : List Delivered} (c : ℕ) (more : List ℕ) → Log sum s 0 t q ws → (survivors c ws ≡ [] → ⊥)
      → length (take c t ++ more) ≤ segment_limit
      → Gives (reader sum') (take c t ++ more) [] (Refused (BadSum (offset 0)))
  log-refused {s} {t} c more k some small =
      let b = log-first sum c k some in
      let d : List ℕ = b.0 in
      let rest : List ℕ = b.1 in
      let e : take c t ++ more ≡ encode sum 0 d ++ (rest ++ more) =
      ap (λ (l : List ℕ). l ++ more) b.3 ∙ append_assoc (encode sum 0 d) rest more in
      let r : run sum' (take c t ++ more) 0 closed ≡ refused (BadSum (offset 0)) =
      ap (λ (l : List ℕ). run sum' l 0 closed) e ∙ run-other (encode sum 0 d) (rest ++ more) (record-first sum d b.2) in
      finds-gives sum' (take c t ++ more) small (final (refused (BadSum (offset 0))) r tt)
