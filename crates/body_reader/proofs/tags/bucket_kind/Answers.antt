-- `bucket_kind` meets its contract: its type, and the kind of histograms.
use Rattle.std.proofs.Common.{◌∙◌}
use Rattle.wal_types.proofs.Passing.{passed_on}
use Rattle.body_reader.specs.Results.KindRead as kind
use Rattle.body_reader.proofs.Types.{kind_layout, kind_other, kind-refused}
use Rattle.body_reader.proofs.tags.bucket_kind.Goals as goal

pub returns : goal.returns
returns c = kind_layout kind.Refused kind.Known _ c.body_type.ensures c.in_ok-layout.was c.in-Histograms.is

pub returns-in_err-layout : goal.returns-in_err-layout
returns-in_err-layout c =
    passed_on c.from_residual.result _ c.from_residual.ensures.1
    ∙ kind-refused kind.Refused kind.Known _ c.body_type.ensures c.in_err-layout.was

pub returns-in_default : goal.returns-in_default
returns-in_default c = kind_other kind.Refused kind.Known _ c.body_type.ensures c.in_ok-layout.was c.in_default.not-Histograms
