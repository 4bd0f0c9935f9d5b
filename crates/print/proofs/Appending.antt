-- What two writes append, and the digits of one more byte.
-- Assumes nothing.
use Rattle.std.proofs.Common.{◌≡◌, ℕ, suc, List, [], ◌∷◌, ◌++◌, ◌+◌, ◌<◌, Option, None, Some, refl, ap, sym, ◌∙◌, take, length, get_or, arith}
use Rattle.std.proofs.lemmas.List.{append_assoc, append-nil}
use Rattle.std.proofs.Math.Seq.{take-suc}
use Rattle.std.specs.Io.KnownBytes.{Appends}
use Rattle.print.specs.Pairs.{hex_pair, hex_pairs}

pub appends_nothing : (o : Option (List ℕ)) → Appends o o []
appends_nothing None = tt
appends_nothing (Some xs) = sym (append-nil xs)

pub appends_more : (o p q : Option (List ℕ)) (xs ys : List ℕ) → Appends o p xs → Appends p q ys → Appends o q (xs ++ ys)
appends_more None p q xs ys one two = tt
appends_more (Some a) None q xs ys one two = absurd one
appends_more (Some a) (Some b) None xs ys one two = absurd two
appends_more (Some a) (Some b) (Some c) xs ys one two = two ∙ ap (λ r. r ++ ys) one ∙ append_assoc a xs ys

pub hex_pairs_append : (xs ys : List ℕ) → hex_pairs (xs ++ ys) ≡ hex_pairs xs ++ hex_pairs ys
unfolding hex_pairs
hex_pairs_append [] ys = refl
hex_pairs_append (x ∷ xs) ys = ap (λ r. hex_pair x ++ r) (hex_pairs_append xs ys)

pub hex_pairs_more : (xs : List ℕ) (i : ℕ) → i < length xs → hex_pairs (take (i + 1) xs) ≡ hex_pairs (take i xs) ++ hex_pair (get_or xs i 0)
unfolding hex_pairs
hex_pairs_more xs i in_bounds =
    let next : i + 1 ≡ suc i = omega arith in
    rw (next, take-suc xs i 0 in_bounds, hex_pairs_append (take i xs) (get_or xs i 0 ∷ []))
