-- `write_groups` meets its contract. The loop's invariant: writing the groups that are left
-- completes the number.
use Rattle.std.proofs.Common.{ℕ, suc, ◌+◌, ◌/◌, ◌%◌, ◌≤◌, ◌≡◌, List, length, set, arith, ◌∙◌, length-set, add-one}
use lib.Seq.{sets}
use Rattle.uvarint.specs.Uvarint.{uvarint}
use Rattle.uvarint.specs.UvarintLaws.{one_group, more_groups, length-one, length_more}
use Rattle.uvarint.proofs.write_groups.Goals as goal
use Rattle.uvarint.proofs.write_groups.Goals.{After-loop-rest, In-loop-rest}

-- the store of one turn, and then the groups that are left, are the groups before it
turn : (d : List ℕ) (i n : ℕ) → 128 ≤ n → sets (set d i (n % 128 + 128)) (i + 1) (uvarint (n / 128)) ≡ sets d i (uvarint n)
turn d i n h = rw (more_groups n h, add-one)

longer : (c : In-loop-rest) → length (uvarint c.loop-rest.rest) ≡ suc (length (uvarint (c.loop-rest.rest / 128)))
longer c = length_more c.loop-rest.rest c.loop-rest-test.true

one_left : (c : After-loop-rest) → length (uvarint c.loop-rest.rest) ≡ 1
one_left c = length-one c.loop-rest.rest c.loop-rest-test.false

pub bounds-buf-i : goal.bounds-buf-i
bounds-buf-i c = omega (arith, longer (goal.at.bounds-buf-i c).In-loop-rest)

pub loop-rest-preserved : goal.loop-rest-preserved
loop-rest-preserved c =
    let l = c.loop-rest in (
      turn l.buf l.i l.rest c.loop-rest-test.true ∙ l.invariant.0,
      length-set l.buf l.i _ ∙ l.invariant.1,
      omega (arith, longer (goal.at.loop-rest-preserved c).In-loop-rest),
    )

pub bounds-buf-i-2 : goal.bounds-buf-i-2
bounds-buf-i-2 c = omega (arith, one_left (goal.at.bounds-buf-i-2 c).After-loop-rest)

pub returns : goal.returns
returns c =
    let l = c.loop-rest in
    record { value = omega (arith, one_left (goal.at.returns c).After-loop-rest); buf_after = rw (one_group l.rest c.loop-rest-test.false) at l.invariant.0 }
