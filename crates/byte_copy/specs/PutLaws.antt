-- Laws of storing bytes in a slice: where they fit and where they do not.
use Rattle.std.specs.Prelude.{ℕ, ◌+◌, ◌≤◌, ◌<◌, List, ◌≡◌}
use Rattle.std.proofs.Common.{le-leb}
use Rattle.std.proofs.lemmas.Bool.{lt-leb}
use Rattle.std.proofs.Math.ListN.{length}
use Rattle.std.proofs.lemmas.List.Edits.{sets}
use Rattle.byte_copy.specs.Put.{put_at, put_end}

module _ (d : List ℕ) (at : ℕ) (vs : List ℕ) where
  -- what a caller that has checked the room cites
  pub put-fits : at + length vs ≤ length d → put_at d at vs ≡ sets d at vs
  unfolding put_at
  put-fits h = rw (le-leb (at + length vs) (length d) h, put_at)

  pub end_fits : at + length vs ≤ length d → put_end d at vs ≡ at + length vs
  unfolding put_end
  end_fits h = rw (le-leb (at + length vs) (length d) h, put_end)

  -- a put that does not fit changes nothing, and returns the place given
  pub put_not : length d < at + length vs → put_at d at vs ≡ d
  unfolding put_at
  put_not h = rw (lt-leb (at + length vs) (length d) h, put_at)

  pub end_not : length d < at + length vs → put_end d at vs ≡ at
  unfolding put_end
  end_not h = rw (lt-leb (at + length vs) (length d) h, put_end)
