-- The last `/` of a path is where all bytes behind it are others. And the version in a path.
-- Assumes nothing.
use Rattle.std.proofs.Common.{◌≡◌, ◌≢◌, refl, sym, ap, ◌∙◌, Bool, true, false, leb, List, ℕ, zero, suc, ◌+◌, ◌-◌, ◌≤◌, ◌<◌, arith, eq-eqb, ne_eqb, length, get_or, take, drop, length-drop, take_all}
use Rattle.std.proofs.lemmas.Bool.{leb-true, leb-false}
use Rattle.wal_types.specs.Results.VersionFound.{VersionFound}
use Rattle.name_format.specs.Results.ParseAnswer.{ParseAnswer}
use Rattle.name_format.specs.Names.{parse_name}
use Rattle.reporting.specs.Paths.{after_slash, version_named, version_in}

pub slash_last : (s : List ℕ) (i n : ℕ) → i < n → get_or s i 0 ≡ 47 → ((k : ℕ) → i + 1 ≤ k → k < n → get_or s k 0 ≢ 47) → i + 1 ≡ after_slash s n
unfolding after_slash
slash_last s i zero l e h = absurd (omega arith)
slash_last s i (suc n) l e h = go (leb n i) refl (λ k. slash_last s i n k e (λ j a b. h j a (omega arith)))
  where
    go : (t : Bool) → leb n i ≡ t → (i < n → i + 1 ≡ after_slash s n) → i + 1 ≡ after_slash s (suc n)
    go true f before =
        let k : i ≡ n = omega (arith, leb-true n i f) in
        rw (eq-eqb (get_or s n 0) 47 (ap (λ j. get_or s j 0) (sym k) ∙ e)) (omega (arith, k))
    go false f before =
        let k : i < n = leb-false n i f in
        rw (ne_eqb (get_or s n 0) 47 (h n (omega arith) (omega arith))) (before k)

pub slash_none : (s : List ℕ) (n : ℕ) → ((k : ℕ) → k < n → get_or s k 0 ≢ 47) → 0 ≡ after_slash s n
unfolding after_slash
slash_none s zero h = refl
slash_none s (suc n) h = rw (ne_eqb (get_or s n 0) 47 (h n (omega arith))) (slash_none s n (λ k l. h k (omega arith)))

pub version_is : (s : List ℕ) (n : ℕ) (a : ParseAnswer) (r : VersionFound) → n ≡ after_slash s (length s)
    → a ≡ parse_name (take (length s - n) (drop n s)) → r ≡ version_named a → r ≡ version_in s
unfolding version_in
version_is s n a r e f g =
    let all : take (length s - n) (drop n s) ≡ drop n s = take_all (length s - n) (drop n s) (omega (arith, length-drop n s)) in
    g ∙ ap version_named (f ∙ ap parse_name (all ∙ ap (λ k. drop k s) e))
