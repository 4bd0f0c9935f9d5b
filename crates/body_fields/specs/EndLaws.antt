-- Laws of ends: where fields that follow each other end, whatever is made of their values.
-- Assumes nothing.
use Rattle.std.specs.Prelude.{◌≡◌, refl, List, ℕ}
use Rattle.std.proofs.Common.{sym, ap, ◌∙◌}
use Rattle.body_format.specs.Fields.{Field, got, fault, and_then, uvarint_at}
use Rattle.body_format.specs.Heads.{delta_at}
use Rattle.body_format.proofs.Laws.Heads.{delta_uvarint}
use Rattle.body_fields.specs.Results.Place.{Place}
use Rattle.body_fields.specs.Results.Place.{At, Fault}
use Rattle.body_fields.specs.Ends.{end_of, onward}

-- a field, and then what ends where h says
end_then : {A B : Type 0} (f : Field A) (g : A → ℕ → Field B) (h : ℕ → Place)
    → ((a : A) (q : ℕ) → end_of (g a q) ≡ h q) → end_of (and_then f g) ≡ onward (end_of f) h
end_then (got a q) g h e = e a q
end_then (fault why) g h e = refl

onward-onward : (p : Place) (f g : ℕ → Place) → onward (onward p f) g ≡ onward p (λ q. onward (f q) g)
onward-onward (At q) f g = refl
onward-onward (Fault why) f g = refl

-- one field
pub end-one : {A B : Type 0} (f : Field A) (k : A → ℕ → B) → end_of (and_then f (λ a q. got (k a q) q)) ≡ end_of f
end-one (got a q) k = refl
end-one (fault why) k = refl

-- two
pub end_two : {A B D : Type 0} (f : Field A) (g : ℕ → Field B) (k : A → B → ℕ → D) {q t : Place}
    → q ≡ end_of f → t ≡ onward q (λ x. end_of (g x))
    → t ≡ end_of (and_then f (λ a x. and_then (g x) (λ b y. got (k a b y) y)))
end_two f g k e h =
    h ∙ ap (λ (p : Place). onward p (λ x. end_of (g x))) e
    ∙ sym (end_then f _ _ (λ a x. end-one (g x) (λ b y. k a b y)))

-- three
pub end_three : {A B C D : Type 0} (f : Field A) (g : ℕ → Field B) (h : ℕ → Field C) (k : A → B → C → ℕ → D)
    {q r t : Place} → q ≡ end_of f → r ≡ onward q (λ x. end_of (g x)) → t ≡ onward r (λ x. end_of (h x))
    → t ≡ end_of (and_then f (λ a x. and_then (g x) (λ b y. and_then (h y) (λ c z. got (k a b c z) z))))
end_three f g h k e i j =
    j ∙ ap (λ (p : Place). onward p (λ x. end_of (h x))) (i ∙ ap (λ (p : Place). onward p (λ x. end_of (g x))) e)
    ∙ onward-onward (end_of f) (λ x. end_of (g x)) (λ x. end_of (h x))
    ∙ sym (end_then f _ _ (λ a x. end_then (g x) _ _ (λ b y. end-one (h y) (λ c z. k a b c z))))

-- a delta ends where its zigzag does
pub delta_end : (s : List ℕ) (p : ℕ) → end_of (uvarint_at s p) ≡ end_of (delta_at s p)
delta_end s p = sym (ap end_of (delta_uvarint s p) ∙ end-one (uvarint_at s p) _)
