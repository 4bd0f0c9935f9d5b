-- What `get_uvarint` finds in its first byte; the invariant of the loop in `read_groups`, and what
-- each of its turns gives.
use Rattle.std.proofs.Common.{ℕ, suc, ◌+◌, ◌-◌, ◌*◌, ◌%◌, ◌^◌, ◌≤◌, ◌<◌, List, ◌≡◌, refl, length, drop, get_or, sym, ap₂, ◌∙◌, mul-le-mul_right, mul_assoc, add-mul, arith, lt-ltb, le-ltb, le-leb, drop_of_length-le, pow-add, pow_mono, drop-cons}
use borrow.Author.Tests.{lt-leb}
use Rattle.uvarint.specs.Results.UvarintRead.{UvarintRead}
use Rattle.uvarint.specs.Results.UvarintRead.{Value, Short, BadVarint}
use Rattle.uvarint.specs.Uvarint.{after, read_groups, read_uvarint}

-- no byte, and a byte that is the last
pub read_none : (s : List ℕ) (at : ℕ) → length s ≤ at → read_uvarint (drop at s) ≡ Short
unfolding read_uvarint read_groups
read_none s at l = rw (drop_of_length-le s l)

pub read_one : (s : List ℕ) (at : ℕ) → at < length s → get_or s at 0 < 128 → read_uvarint (drop at s) ≡ Value (get_or s at 0) 1
unfolding read_uvarint read_groups
read_one s at l h = rw (drop-cons s at 0 l, read_uvarint, read_groups, lt-ltb (get_or s at 0) 128 h)

-- k bytes encode `value`, and the rest encodes r, which counts `scale` times
pub joined : ℕ → ℕ → ℕ → UvarintRead → UvarintRead
joined value scale k (Value n len) = Value (value + n * scale) (k + len)
joined value scale k Short = Short
joined value scale k BadVarint = BadVarint

pub joined-none : (r : UvarintRead) → joined 0 1 0 r ≡ r
unfolding joined
joined-none (Value n len) = ap₂ Value (omega arith) (omega arith)
joined-none Short = refl
joined-none BadVarint = refl

joined-after : (value scale k b : ℕ) (r : UvarintRead)
    → joined value scale k (after b r) ≡ joined (value + b * scale) (scale * 128) (k + 1) r
unfolding joined after
joined-after v m k b (Value n len) =
    ap₂ Value (omega (arith, add-mul b (128 * n) m, mul_assoc 128 n m, mul_assoc n m 128)) (omega arith)
joined-after v m k b Short = refl
joined-after v m k b BadVarint = refl

-- what is known at the loop's head
pub record Head (s : List ℕ) (at value scale i : ℕ) : Type 0 where
  pub nine : i ≤ 9
  pub power : scale ≡ 2 ^ (7 * i)
  pub small : value < scale
  pub whole : read_uvarint (drop at s) ≡ joined value scale i (read_groups (9 - i) (drop (at + i) s))

module _ (s : List ℕ) (at value scale i : ℕ) (h : Head s at value scale i) where
  pub ended : length s ≤ at + i → Short ≡ read_uvarint (drop at s)
  unfolding read_groups joined
  ended l = sym (h.whole ∙ rw (drop_of_length-le s l))

  -- a byte that is present, one of the first nine
  module _ (l : at + i < length s) (u : i < 9) where
    pub last : get_or s (at + i) 0 < 128 → Value (value + get_or s (at + i) 0 % 128 * scale) (i + 1) ≡ read_uvarint (drop at s)
    unfolding read_groups joined
    last v =
        let e : 9 - i ≡ suc (9 - (i + 1)) = omega arith in
        let low : get_or s (at + i) 0 % 128 ≡ get_or s (at + i) 0 = omega arith in
        sym (h.whole ∙ rw (low, drop-cons s (at + i) 0 l, e, read_groups, lt-ltb (get_or s (at + i) 0) 128 v))

    pub marked : 128 ≤ get_or s (at + i) 0
        → read_uvarint (drop at s)
        ≡ joined (value + get_or s (at + i) 0 % 128 * scale) (scale * 128) (i + 1) (read_groups (9 - (i + 1)) (drop (at + (i + 1)) s))
    unfolding read_groups
    marked v =
        let e : 9 - i ≡ suc (9 - (i + 1)) = omega arith in
        let k : at + (i + 1) ≡ suc (at + i) = omega arith in
        h.whole
        ∙ rw (drop-cons s (at + i) 0 l, e, read_groups, le-ltb (get_or s (at + i) 0) 128 v, k) (joined-after value scale i _ _)

  -- one more group fits
  pub room : (b : ℕ) → i < 9 → (value + b % 128 * scale < scale * 128) × (scale * 128 ≤ 2 ^ 63)
  room b u =
      let p : 2 ^ (7 * i) ≤ 2 ^ 56 = pow_mono {j = 56} (omega arith) in
      let q : b % 128 * scale ≤ 127 * scale = mul-le-mul_right scale (omega arith) in
      omega arith

  pub scaled : scale * 128 ≡ 2 ^ (7 * (i + 1))
  scaled = let e : 7 * (i + 1) ≡ 7 * i + 7 = omega arith in rw (e, pow-add 2 (7 * i) 7, h.power)

-- the tenth byte
module _ (s : List ℕ) (at value scale : ℕ) (h : Head s at value scale 9) where
  pub tenth_room : (b : ℕ) → b ≤ 1 → value + b * scale < 2 ^ 64
  tenth_room b u = let q : b * scale ≤ 1 * scale = mul-le-mul_right scale u in omega (arith, h.power)

  module _ (l : at + 9 < length s) where
    pub tenth : get_or s (at + 9) 0 ≤ 1 → Value (value + get_or s (at + 9) 0 * scale) 10 ≡ read_uvarint (drop at s)
    unfolding read_groups joined
    tenth v = sym (h.whole ∙ rw (drop-cons s (at + 9) 0 l, read_groups, le-leb (get_or s (at + 9) 0) 1 v))

    pub bad : 1 < get_or s (at + 9) 0 → BadVarint ≡ read_uvarint (drop at s)
    unfolding read_groups joined
    bad v = sym (h.whole ∙ rw (drop-cons s (at + 9) 0 l, read_groups, lt-leb (get_or s (at + 9) 0) 1 v))
