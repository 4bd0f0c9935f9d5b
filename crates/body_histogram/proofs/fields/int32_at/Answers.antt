-- `int32_at` meets its contract: its zigzag has 32 bits, or is bad.
use Rattle.std.specs.Prelude.{◌≡◌, ℤ}
use Rattle.std.proofs.Common.{sym, ap, ◌∙◌, w32, w64, to_z, of_z, to_z-of_z}
use borrow.Author.Rules.{sfits_of}
use Rattle.wal_types.proofs.Passing.{passed_on}
use Rattle.varint.specs.Varint.{unzigzag}
use Rattle.body_format.specs.Fields.{got}
use Rattle.body_format.specs.Histograms.{int32_at}
use Rattle.body_fields.specs.Laws.{number-got, number-fault}
use Rattle.body_histogram.specs.Results.Int32Read as int
use Rattle.body_histogram.specs.Forms.{int32_read}
use Rattle.body_histogram.proofs.Decoding.{int32_got, int32_fault, int32_fits}
use Rattle.body_histogram.proofs.fields.int32_at.Goals as goal
use Rattle.body_histogram.proofs.fields.int32_at.Goals.{After-zigzag_back-value}

-- the number that is read: its zigzag has 32 bits
read : (c : After-zigzag_back-value) → int32_at c.args.body.now c.args.at ≡ got (unzigzag c.in_ok-zigzag.zigzag) c.in_ok-zigzag.next
read c = int32_got _ _ (number-got _ _ c.uint32_at.ensures c.in_ok-zigzag.was)

value : (c : After-zigzag_back-value) → to_z w64 (of_z w64 c.zigzag_back-value.result) ≡ unzigzag c.in_ok-zigzag.zigzag
value c = to_z-of_z {w = w64} (sfits_of c.zigzag_back-value.type_inv) ∙ c.zigzag_back-value.ensures ∙ ap unzigzag c.from.ensures

pub overflow_cast-value : goal.overflow_cast-value
overflow_cast-value c =
    let d = (goal.at.overflow_cast-value c).After-zigzag_back-value in
    rw (value d) (sfits_of (int32_fits _ _ (read d)))

pub returns : goal.returns
returns c =
    let d = (goal.at.returns c).After-zigzag_back-value in
    ap (λ (z : ℤ). int.Got z c.in_ok-zigzag.next) (ap (λ (z : ℤ). to_z w32 (of_z w32 z)) (value d) ∙ to_z-of_z {w = w32} (sfits_of (int32_fits _ _ (read d))))
    ∙ sym (ap int32_read (read d))

pub returns-in_err-zigzag : goal.returns-in_err-zigzag
returns-in_err-zigzag c =
    passed_on c.from_residual.result _ c.from_residual.ensures.1
    ∙ sym (ap int32_read (int32_fault _ _ (number-fault _ _ c.uint32_at.ensures c.in_err-zigzag.was)))
