-- What `map_err` leaves as it was, and where an error that it made comes from.
use Rattle.std.proofs.Common.{◌≡◌, refl, ℕ, Result, Ok, Err, MatchResult, IsErrAnd, arith}
use Rattle.std.proofs.lemmas.Result.{err_from_is_err_and}

module _ {T E F : Type 0} where
  pub was_ok : (r : Result T E) (m : Result T F) (Q : E → F → Type 0) → MatchResult r (λ x. m ≡ Ok x) (λ e. IsErrAnd m (Q e))
      → {x : T} → m ≡ Ok x → r ≡ Ok x
  was_ok (Ok y) m Q h e = cc
  was_ok (Err y) m Q h e =
      let p = err_from_is_err_and m h in
      let z : ◌≡◌ {A = ℕ} 0 1 = cc in absurd (omega arith)

  pub was_err : (r : Result T E) (m : Result T F) (Q : E → F → Type 0) → MatchResult r (λ x. m ≡ Ok x) (λ e. IsErrAnd m (Q e))
      → {f : F} → m ≡ Err f → (e : E) × (r ≡ Err e) × Q e f
  was_err (Ok y) m Q h e = let z : ◌≡◌ {A = ℕ} 0 1 = cc in absurd (omega arith)
  was_err (Err y) m Q h {f} e = (y, refl, rw e at h)
