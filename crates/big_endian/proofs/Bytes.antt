-- std's bytes of a number are the definition's, and so is the number that std makes of bytes.
-- Assumes nothing.
use Rattle.std.specs.Prelude.{ℕ, ◌/◌, ◌%◌, ◌^◌, ◌≤◌, List, ◌≡◌, length, take}
use Rattle.std.proofs.Common.{arith, get_or-take, get_or-drop}
use Rattle.std.specs.Int.{w32, w64, to_be_bytes, from_be_bytes}
use Rattle.big_endian.specs.Fixed.{be4, be8, read_be4, read_be8, whole_be4}
use Rattle.big_endian.specs.FixedLaws.{read_whole, whole4}

pub be4_bytes : (x : ℕ) → to_be_bytes w32 (x % 2 ^ 32) ≡ be4 x
unfolding be4
be4_bytes x =
    let e3 : x % 2 ^ 32 / 2 ^ 24 % 256 ≡ x / 2 ^ 24 % 256 = omega arith in
    let e2 : x % 2 ^ 32 / 2 ^ 16 % 256 ≡ x / 2 ^ 16 % 256 = omega arith in
    let e1 : x % 2 ^ 32 / 2 ^ 8 % 256 ≡ x / 2 ^ 8 % 256 = omega arith in
    let e0 : x % 2 ^ 32 % 256 ≡ x % 256 = omega arith in
    cc

pub be8_bytes : (x : ℕ) → to_be_bytes w64 x ≡ be8 x
unfolding be8 be4
be8_bytes x =
    let e7 : x / 2 ^ 56 % 256 ≡ x / 2 ^ 32 / 2 ^ 24 % 256 = omega arith in
    let e6 : x / 2 ^ 48 % 256 ≡ x / 2 ^ 32 / 2 ^ 16 % 256 = omega arith in
    let e5 : x / 2 ^ 40 % 256 ≡ x / 2 ^ 32 / 2 ^ 8 % 256 = omega arith in
    cc

pub bytes_be4 : (s : List ℕ) → 4 ≤ length s → from_be_bytes w32 (take 4 s) ≡ whole_be4 s
unfolding read_be4
bytes_be4 s h =
    rw (get_or-take 4 s 0 0 (omega arith), get_or-take 4 s 1 0 (omega arith), get_or-take 4 s 2 0 (omega arith), get_or-take 4 s 3 0 (omega arith), whole4 s h) (omega arith)

pub bytes_be8 : (s : List ℕ) → 8 ≤ length s → from_be_bytes w64 (take 8 s) ≡ read_be8 s
unfolding read_be4
bytes_be8 s h =
    rw (
      get_or-take 8 s 0 0 (omega arith),
      get_or-take 8 s 1 0 (omega arith),
      get_or-take 8 s 2 0 (omega arith),
      get_or-take 8 s 3 0 (omega arith),
      get_or-take 8 s 4 0 (omega arith),
      get_or-take 8 s 5 0 (omega arith),
      get_or-take 8 s 6 0 (omega arith),
      get_or-take 8 s 7 0 (omega arith),
      read_whole s h,
      get_or-drop 4 s 0 0,
      get_or-drop 4 s 1 0,
      get_or-drop 4 s 2 0,
      get_or-drop 4 s 3 0,
    ) (omega arith)
