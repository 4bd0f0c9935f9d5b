-- Bytes written one after another.
use Rattle.std.specs.Prelude.{◌≡◌, List, ◌++◌, ℕ, ◌+◌, ◌≤◌, length}
use Rattle.std.proofs.Common.{ap₂, ◌∙◌, arith, length-append}
use Rattle.std.proofs.lemmas.List.Edits.{sets}
use Rattle.std.proofs.Math.Seq.{length-sets}
use Rattle.byte_copy.specs.Put.{put_at, put_end}
use Rattle.byte_copy.specs.PutLaws.{put-fits, end_fits}
use Rattle.byte_copy.specs.CopiedLaws.{sets-append}

-- the bytes vs are written to d at place `at`: d' is the slice then, and r the place after them
abbrev pub Put : List ℕ → ℕ → List ℕ → List ℕ → ℕ → Type 0
Put d at vs d' r = (r ≡ at + length vs) × (d' ≡ sets d at vs)

pub put_last : (d d' : List ℕ) (at r : ℕ) (vs : List ℕ) → at + length vs ≤ length d → r ≡ put_end d at vs → d' ≡ put_at d at vs → Put d at vs d' r
put_last d d' at r vs h e f = (e ∙ end_fits d at vs h, f ∙ put-fits d at vs h)

-- a and then b, where both fit: a, the room for b, and both
module _ (d d₁ : List ℕ) (at p : ℕ) (a b : List ℕ) (h : at + length (a ++ b) ≤ length d) where
  pub put_first : p ≡ put_end d at a → d₁ ≡ put_at d at a → Put d at a d₁ p
  put_first e f = put_last d d₁ at p a (omega (arith, length-append a b)) e f

  pub room_then : Put d at a d₁ p → p + length b ≤ length d₁
  room_then (e, f) = rw (f, length-sets d at a) (omega (arith, length-append a b))

  pub put_then : (d₂ : List ℕ) (q : ℕ) → Put d at a d₁ p → Put d₁ p b d₂ q → Put d at (a ++ b) d₂ q
  put_then d₂ q (e, f) (k, l) = (
    omega (arith, length-append a b),
    l ∙ ap₂ (λ (x : List ℕ) (y : ℕ). sets x y b) f e ∙ sets-append a b d at,
  )

pub put_three : (d d₁ d₂ d₃ : List ℕ) (at p q r : ℕ) (a b c : List ℕ) → at + length (a ++ (b ++ c)) ≤ length d
    → p ≡ put_end d at a → d₁ ≡ put_at d at a → q ≡ put_end d₁ p b → d₂ ≡ put_at d₁ p b → r ≡ put_end d₂ q c → d₃ ≡ put_at d₂ q c
    → Put d at (a ++ (b ++ c)) d₃ r
put_three d d₁ d₂ d₃ at p q r a b c h e f g i j k =
    let one : Put d at a d₁ p = put_first d d₁ at p a (b ++ c) h e f in
    let room : p + length (b ++ c) ≤ length d₁ = room_then d d₁ at p a (b ++ c) h one in
    let two : Put d₁ p b d₂ q = put_first d₁ d₂ p q b c room g i in
    let three : Put d₂ q c d₃ r = put_last d₂ d₃ q r c (room_then d₁ d₂ p q b c room two) j k in
    put_then d d₁ at p a (b ++ c) h d₃ r one (put_then d₁ d₂ p q b c room d₃ r two three)
