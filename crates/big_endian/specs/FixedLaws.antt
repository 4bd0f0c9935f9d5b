-- Laws of fixed fields: length and bounds, and that decoding undoes encoding.
use Rattle.std.specs.Prelude.{ℕ, ◌+◌, ◌*◌, ◌/◌, ◌%◌, ◌^◌, ◌≤◌, ◌<◌, Bool, true, false, List, [], ◌∷◌, ◌++◌, ◌≡◌, refl, leb, length, take, drop, get_or}
use Rattle.std.proofs.Common.{sym, ap, ap₂, ◌∙◌, add-zero, arith, le-leb, length-append, length-drop, get_or-drop, get_or-take}
use Rattle.std.proofs.lemmas.Bool.{lt-leb}
use Rattle.std.proofs.Math.ListN.{get_or-append}
use Rattle.std.proofs.lemmas.Nat.{mod-pow-add}
use Rattle.std.proofs.lemmas.List.{drop-append-le}
use Rattle.big_endian.specs.Fixed.{be4, be8, read_be2, read_be4, read_be8, whole_be4}

pub length-be4 : (x : ℕ) → length (be4 x) ≡ 4
unfolding be4
length-be4 x = refl

pub length-be8 : (x : ℕ) → length (be8 x) ≡ 8
unfolding be4 be8
length-be8 x = refl

-- with eight bytes present, and with fewer
pub read_whole : (s : List ℕ) → 8 ≤ length s → read_be8 s ≡ read_be4 s * 2 ^ 32 + read_be4 (drop 4 s)
unfolding read_be8
read_whole s h = rw (le-leb 8 (length s) h, read_be8)

pub read_short : (s : List ℕ) → length s < 8 → read_be8 s ≡ 0
unfolding read_be8
read_short s h = rw (lt-leb 8 (length s) h, read_be8)

pub whole4 : (s : List ℕ) → 4 ≤ length s → whole_be4 s ≡ read_be4 s
unfolding whole_be4
whole4 s h = rw (le-leb 4 (length s) h, whole_be4)

pub short4 : (s : List ℕ) → length s < 4 → whole_be4 s ≡ 0
unfolding whole_be4
short4 s h = rw (lt-leb 4 (length s) h, whole_be4)

-- a number is its four bytes, split off from the highest
joined : (a b c d u v w : ℕ) → w ≡ a + v → v ≡ b + u → u ≡ c + d → a + b + c + d ≡ w
joined a b c d u v w p q r = omega arith

pub read-be4 : (x : ℕ) (rest : List ℕ) → read_be4 (be4 x ++ rest) ≡ x % 2 ^ 32
unfolding be4 read_be4
read-be4 x rest = joined _ _ _ _ _ _ _ (mod-pow-add x 8 24) (mod-pow-add x 8 16) (mod-pow-add x 8 8)

-- every 64-bit number, whatever follows it
pub read-be8 : (x : ℕ) (rest : List ℕ) → x < 2 ^ 64 → read_be8 (be8 x ++ rest) ≡ x
unfolding be8 be4
read-be8 x rest h =
    read_whole (be8 x ++ rest) (omega arith)
    ∙ ap₂ (λ (a b : ℕ). a * 2 ^ 32 + b) (read-be4 (x / 2 ^ 32) (be4 x ++ rest)) (read-be4 x rest)
    ∙ omega arith

-- bytes below 256 encode a number of 64 bits
read-be4-fits : (s : List ℕ) → ((i : ℕ) → get_or s i 0 < 256) → read_be4 s < 2 ^ 32
unfolding read_be4
read-be4-fits s h = omega (arith, h 0, h 1, h 2, h 3)

pub read-be8-fits : (s : List ℕ) → ((i : ℕ) → get_or s i 0 < 256) → read_be8 s < 2 ^ 64
unfolding read_be8
read-be8-fits s h = go (leb 8 (length s)) refl
  where
    go : (t : Bool) → leb 8 (length s) ≡ t → read_be8 s < 2 ^ 64
    go true e =
        let high : read_be4 s < 2 ^ 32 = read-be4-fits s h in
        let low : read_be4 (drop 4 s) < 2 ^ 32 = read-be4-fits (drop 4 s) (λ i. rw get_or-drop (h (4 + i))) in
        rw (e, read_be8) (omega arith)
    go false e = rw (e, read_be8) (omega arith)

-- bytes that follow do not change what eight bytes encode
append-be4 : (s t : List ℕ) → 4 ≤ length s → read_be4 (s ++ t) ≡ read_be4 s
unfolding read_be4
append-be4 s t h =
    rw (get_or-append s t 0 0 (omega arith), get_or-append s t 0 1 (omega arith), get_or-append s t 0 2 (omega arith), get_or-append s t 0 3 (omega arith))

pub append-be8 : (s t : List ℕ) → 8 ≤ length s → read_be8 (s ++ t) ≡ read_be8 s
append-be8 s t h =
    read_whole (s ++ t) (rw length-append (omega arith))
    ∙ ap₂ (λ (a b : ℕ). a * 2 ^ 32 + b) (append-be4 s t (omega arith))
    (ap read_be4 (drop-append-le 4 s t (omega arith)) ∙ append-be4 (drop 4 s) t (rw length-drop (omega arith)))
    ∙ sym (read_whole s h)

-- the bytes at a place of a slice
pub read_be2_at : (s : List ℕ) (at : ℕ) → read_be2 (drop at s) ≡ get_or s at 0 * 2 ^ 8 + get_or s (at + 1) 0
unfolding read_be2
read_be2_at s at = rw (get_or-drop at s 0 0, get_or-drop at s 1 0, add-zero at)

pub read-be4-at : (s : List ℕ) (at : ℕ)
    → read_be4 (drop at s)
    ≡ get_or s at 0 * 2 ^ 24 + get_or s (at + 1) 0 * 2 ^ 16 + get_or s (at + 2) 0 * 2 ^ 8 + get_or s (at + 3) 0
unfolding read_be4
read-be4-at s at = rw (get_or-drop at s 0 0, get_or-drop at s 1 0, get_or-drop at s 2 0, get_or-drop at s 3 0, add-zero at)

-- bytes cut off after them do not change what the first two or four encode
pub read_be2_take : (n : ℕ) (w : List ℕ) → 2 ≤ n → read_be2 (take n w) ≡ read_be2 w
unfolding read_be2
read_be2_take n w h = rw (get_or-take n w 0 0 (omega arith), get_or-take n w 1 0 (omega arith))

pub read-be4-take : (n : ℕ) (w : List ℕ) → 4 ≤ n → read_be4 (take n w) ≡ read_be4 w
unfolding read_be4
read-be4-take n w h =
    rw (get_or-take n w 0 0 (omega arith), get_or-take n w 1 0 (omega arith), get_or-take n w 2 0 (omega arith), get_or-take n w 3 0 (omega arith))

-- bytes below 256 are those of the number that they encode
pub be4-read : (a b c d : ℕ) (w : List ℕ) → a < 256 → b < 256 → c < 256 → d < 256
    → be4 (read_be4 (a ∷ b ∷ c ∷ d ∷ w)) ≡ a ∷ b ∷ c ∷ d ∷ []
unfolding be4 read_be4
be4-read a b c d w ha hb hc hd =
    let x : ℕ = a * 2 ^ 24 + b * 2 ^ 16 + c * 2 ^ 8 + d in
    let e3 : x / 2 ^ 24 % 256 ≡ a = omega arith in
    let e2 : x / 2 ^ 16 % 256 ≡ b = omega arith in
    let e1 : x / 2 ^ 8 % 256 ≡ c = omega arith in
    let e0 : x % 256 ≡ d = omega arith in
    λ i. e3 i ∷ e2 i ∷ e1 i ∷ e0 i ∷ []
