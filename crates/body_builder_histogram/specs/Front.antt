-- The front of a histogram: its head, and its numbers. Its lists come after it.
-- Assumes nothing.
use Rattle.std.specs.Prelude.{List, ◌++◌, ℕ}
use Rattle.body_format.specs.declared.BucketKind.{BucketKind}
use Rattle.body_format.specs.declared.Numbers.{Numbers}
use Rattle.body_format.specs.Heads.{head_bytes}
use Rattle.body_format.specs.Histograms.{numbers_bytes}

-- of id and time (its 64 bits), after the u bytes used of the body in buffer b
unfoldable pub front_bytes : List ℕ → ℕ → BucketKind → ℕ → ℕ → Numbers → List ℕ
front_bytes b u k id time n = head_bytes b u id time ++ numbers_bytes k n
