-- Laws of the uvarint: its recursion, its length, and that decoding undoes encoding.
use Rattle.std.specs.Prelude.{ℕ, zero, suc, ◌+◌, ◌-◌, ◌*◌, ◌/◌, ◌%◌, ◌^◌, ◌≤◌, ◌<◌, Bool, true, false, List, [], ◌∷◌, ◌++◌, ◌≡◌, refl, ltb, leb, length, get_or}
use Rattle.std.proofs.Common.{sym, ap, ap₂, ◌∙◌, subst, pow-suc, add-one, arith, lt-ltb, le-ltb, le-leb, ltb-true, ltb-false, leb-true, pow-add, pow_mono, pow_pos}
use Rattle.std.proofs.Math.Nat.{one-le-pow}
use Rattle.std.specs.Int.Count.{count_leading_zeros}
use Rattle.std.proofs.lemmas.Nat.{leading_top}
use Rattle.uvarint.specs.Results.UvarintRead.{UvarintRead}
use Rattle.uvarint.specs.Results.UvarintRead.{Value, Short, BadVarint}
use Rattle.uvarint.specs.Uvarint.{groups, uvarint, after, read_groups, read_uvarint}

-- The recursion, without steps.

enough : (f g n : ℕ) → n ≤ f → n ≤ g → groups f n ≡ groups g n
unfolding groups
enough zero zero n hf hg = refl
enough zero (suc g) n hf hg = rw (lt-ltb n 128 (omega arith), groups)
enough (suc f) zero n hf hg = rw (lt-ltb n 128 (omega arith), groups)
enough (suc f) (suc g) n hf hg = go (ltb n 128) refl (enough f g (n / 128))
  where
    go : (t : Bool) → ltb n 128 ≡ t → (n / 128 ≤ f → n / 128 ≤ g → groups f (n / 128) ≡ groups g (n / 128))
        → groups (suc f) n ≡ groups (suc g) n
    go true e ih = rw (e, groups)
    go false e ih = let h : 128 ≤ n = ltb-false n 128 e in rw (e, groups, ih (omega arith) (omega arith))

pub one_group : (n : ℕ) → n < 128 → uvarint n ≡ n ∷ []
unfolding uvarint groups
one_group zero h = refl
one_group (suc n) h = rw (lt-ltb (suc n) 128 h, uvarint, groups)

pub more_groups : (n : ℕ) → 128 ≤ n → uvarint n ≡ (n % 128 + 128) ∷ uvarint (n / 128)
unfolding uvarint groups
more_groups zero h = absurd (omega arith)
more_groups (suc n) h =
    rw (le-ltb (suc n) 128 h, uvarint, groups, enough n (suc n / 128) (suc n / 128) (omega arith) (omega arith))

-- Its length.

pub length-one : (n : ℕ) → n < 128 → length (uvarint n) ≡ 1
length-one n h = ap length (one_group n h)

pub length_more : (n : ℕ) → 128 ≤ n → length (uvarint n) ≡ suc (length (uvarint (n / 128)))
length_more n h = ap length (more_groups n h)

-- seven more bits
seven : (k m : ℕ) → k ≡ m + 7 → 2 ^ k ≡ 2 ^ m * 128
seven k m e = ap (λ (x : ℕ). 2 ^ x) e ∙ pow-add 2 m 7

-- a number whose highest bit is at 7q + r, r below 7, takes q + 1 bytes
length_top : (q r n : ℕ) → r < 7 → 2 ^ (7 * q + r) ≤ n → n < 2 ^ suc (7 * q + r) → length (uvarint n) ≡ suc q
length_top zero r n h l u =
    let p : 2 ^ suc (7 * zero + r) ≤ 2 ^ 7 = pow_mono {j = 7} (omega arith) in
    length-one n (omega arith)
length_top (suc q) r n h l u =
    let e = seven (7 * suc q + r) (7 * q + r) (omega arith) in
    let f = seven (suc (7 * suc q + r)) (suc (7 * q + r)) (omega arith) in
    let p = pow_pos (7 * q + r) in
    length_more n (omega arith) ∙ ap suc (length_top q r (n / 128) h (omega arith) (omega arith))

-- sevenths rounded up are 9/64 and one more, for up to 64 bits
ninths : (b : ℕ) → 1 ≤ b → b ≤ 64 → (b + 6) / 7 ≡ (b * 9 + 64) / 64
ninths b l h = omega arith

-- a byte for every seven bits of a number, which are 64 less its leading zeros
pub length-bits : (n : ℕ) → 0 < n → n < 2 ^ 64 → length (uvarint n) ≡ ((64 - count_leading_zeros 64 n) * 9 + 64) / 64
length-bits n p h =
    let t = leading_top 64 n p h in
    let e : 7 * (t.0 / 7) + t.0 % 7 ≡ t.0 = omega arith in
    let g : length (uvarint n) ≡ suc (t.0 / 7) = length_top (t.0 / 7) (t.0 % 7) n (omega arith) (rw e t.2) (rw e t.3) in
    let s : length (uvarint n) ≡ (64 - count_leading_zeros 64 n + 6) / 7 = omega (arith, t.1) in
    s ∙ ninths (64 - count_leading_zeros 64 n) (omega (arith, t.1)) (omega arith)

-- a number that f groups and a last byte of 0 or 1 can hold takes at most f bytes and that one
at_most : (f n : ℕ) → n < 2 * 128 ^ f → length (uvarint n) ≤ suc f
at_most zero n h = omega (arith, length-one n (omega arith))
at_most (suc f) n h = go (ltb n 128) refl (at_most f (n / 128))
  where
    go : (t : Bool) → ltb n 128 ≡ t → (n / 128 < 2 * 128 ^ f → length (uvarint (n / 128)) ≤ suc f)
        → length (uvarint n) ≤ suc (suc f)
    go true e ih = omega (arith, length-one n (ltb-true n 128 e))
    go false e ih = omega (arith, length_more n (ltb-false n 128 e), ih (omega (arith, pow-suc 128 f)))

pub length-at-least_1 : (n : ℕ) → 1 ≤ length (uvarint n)
length-at-least_1 n = go (ltb n 128) refl
  where
    go : (t : Bool) → ltb n 128 ≡ t → 1 ≤ length (uvarint n)
    go true e = omega (arith, length-one n (ltb-true n 128 e))
    go false e = omega (arith, length_more n (ltb-false n 128 e))

groups-bytes : (f n i : ℕ) → n ≤ f → get_or (groups f n) i 0 < 256
unfolding groups
groups-bytes zero n zero h = omega arith
groups-bytes zero n (suc i) h = omega arith
groups-bytes (suc f) n i h = go (ltb n 128) refl i (groups-bytes f (n / 128))
  where
    go : (t : Bool) → ltb n 128 ≡ t → (i : ℕ) → ((k : ℕ) → n / 128 ≤ f → get_or (groups f (n / 128)) k 0 < 256)
        → get_or (groups (suc f) n) i 0 < 256
    go true e zero ih = let l : n < 128 = ltb-true n 128 e in rw (e, groups) (omega arith)
    go true e (suc i) ih = rw (e, groups) (omega arith)
    go false e zero ih = rw (e, groups) (omega arith)
    go false e (suc i) ih = let l : 128 ≤ n = ltb-false n 128 e in rw (e, groups) (ih i (omega arith))

-- Decoding undoes encoding.

there_and_back : (f n : ℕ) (rest : List ℕ) → n < 2 * 128 ^ f → read_groups f (uvarint n ++ rest) ≡ Value n (length (uvarint n))
unfolding read_groups after
there_and_back zero n rest h = rw (one_group n (omega arith), le-leb n 1 (omega arith), read_groups)
there_and_back (suc f) n rest h = go (ltb n 128) refl (there_and_back f (n / 128) rest)
  where
    go : (t : Bool) → ltb n 128 ≡ t
        → (n / 128 < 2 * 128 ^ f → read_groups f (uvarint (n / 128) ++ rest) ≡ Value (n / 128) (length (uvarint (n / 128))))
        → read_groups (suc f) (uvarint n ++ rest) ≡ Value n (length (uvarint n))
    go true e ih = rw (one_group n (ltb-true n 128 e), e, read_groups)
    go false e ih =
        let l : 128 ≤ n = ltb-false n 128 e in
        rw (more_groups n l, le-ltb (n % 128 + 128) 128 (omega arith), read_groups, ih (omega (arith, pow-suc 128 f)))
        (ap₂ Value (omega arith) (add-one _))

-- every 64-bit number, whatever follows it
pub read-uvarint : (n : ℕ) (rest : List ℕ) → n < 2 ^ 64 → read_uvarint (uvarint n ++ rest) ≡ Value n (length (uvarint n))
unfolding read_uvarint
read-uvarint n rest h = there_and_back 9 n rest h

-- What is known of a number that was decoded.

-- it took 1 to 10 bytes, all of which are present; it has 64 bits; encoded it takes no more bytes
pub record Taken (s : List ℕ) (n len : ℕ) : Type 0 where
  pub some : 1 ≤ len
  pub most : len ≤ 10
  pub there : len ≤ length s
  pub fits : n < 2 ^ 64
  pub shortest : length (uvarint n) ≤ len

abbrev Told : ℕ → List ℕ → UvarintRead → Type 0
Told f s (Value n len) = (1 ≤ len) × (len ≤ suc f) × (len ≤ length s) × (n < 2 * 128 ^ f) × (length (uvarint n) ≤ len)
Told f s Short = Unit {0}
Told f s BadVarint = Unit {0}

told-after : (f low b : ℕ) (s : List ℕ) (r : UvarintRead) → low < 128 → Told f s r → Told (suc f) (b ∷ s) (after low r)
unfolding after
told-after f low b s (Value n len) l (p, q, u, v, w) =
    (omega arith, omega arith, omega arith, omega (arith, pow-suc 128 f), shorter (ltb (low + 128 * n) 128) refl)
  where
    shorter : (t : Bool) → ltb (low + 128 * n) 128 ≡ t → length (uvarint (low + 128 * n)) ≤ len + 1
    shorter true e = omega (arith, length-one (low + 128 * n) (ltb-true (low + 128 * n) 128 e))
    shorter false e =
        let d : (low + 128 * n) / 128 ≡ n = omega arith in
        omega (arith, rw d at (length_more (low + 128 * n) (ltb-false (low + 128 * n) 128 e)))
told-after f low b s Short l h = tt
told-after f low b s BadVarint l h = tt

told : (f : ℕ) (s : List ℕ) → Told f s (read_groups f s)
unfolding read_groups
told f [] = tt
told zero (b ∷ s) = go (leb b 1) refl
  where
    go : (t : Bool) → leb b 1 ≡ t → Told zero (b ∷ s) (read_groups zero (b ∷ s))
    go true e =
        let l : b ≤ 1 = leb-true b 1 e in
        rw (e, read_groups) (omega arith, omega arith, omega arith, omega arith, omega (arith, length-one b (omega arith)))
    go false e = rw (e, read_groups) tt
told (suc f) (b ∷ s) = go (ltb b 128) refl (told f s)
  where
    go : (t : Bool) → ltb b 128 ≡ t → Told f s (read_groups f s) → Told (suc f) (b ∷ s) (read_groups (suc f) (b ∷ s))
    go true e ih =
        let l : b < 128 = ltb-true b 128 e in
        rw (e, read_groups) (
          omega arith,
          omega arith,
          omega arith,
          omega (arith, pow-suc 128 f, one-le-pow f 128 (omega arith)),
          omega (arith, length-one b l),
        )
    go false e ih = rw (e, read_groups) (told-after f (b % 128) b s (read_groups f s) (omega arith) ih)

pub taken : (s : List ℕ) (n len : ℕ) → read_uvarint s ≡ Value n len → Taken s n len
unfolding read_uvarint
taken s n len e =
    let t = subst (Told 9 s) e (told 9 s) in
    record { some = t.0; most = t.1; there = t.2; fits = t.3; shortest = t.4 }

-- Bytes that follow change no answer but Short.

append-groups : (f : ℕ) (s t : List ℕ) → (read_groups f s ≡ Short → ⊥) → read_groups f (s ++ t) ≡ read_groups f s
unfolding read_groups after
append-groups f [] t h = absurd (h refl)
append-groups zero (b ∷ s) t h = refl
append-groups (suc f) (b ∷ s) t h = go (ltb b 128) refl (append-groups f s t)
  where
    go : (u : Bool) → ltb b 128 ≡ u → ((read_groups f s ≡ Short → ⊥) → read_groups f (s ++ t) ≡ read_groups f s)
        → read_groups (suc f) (b ∷ (s ++ t)) ≡ read_groups (suc f) (b ∷ s)
    go true e ih = rw (e, read_groups)
    go false e ih = rw (e, read_groups) (ap (after (b % 128)) (ih (λ q. h (rw (e, read_groups, q)))))

pub append-read : (s t : List ℕ) → (read_uvarint s ≡ Short → ⊥) → read_uvarint (s ++ t) ≡ read_uvarint s
unfolding read_uvarint
append-read s t h = append-groups 9 s t h

pub append-value : (s t : List ℕ) (n len : ℕ) → read_uvarint s ≡ Value n len → read_uvarint (s ++ t) ≡ Value n len
append-value s t n len e = append-read s t (λ q. never (sym e ∙ q)) ∙ e
  where
    never : Value n len ≡ Short → ⊥
    never p = let z : ◌≡◌ {A = ℕ} 0 1 = cc in omega arith
