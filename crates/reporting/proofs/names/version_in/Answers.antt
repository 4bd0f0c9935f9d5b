-- `version_in` meets its contract: the last part is parsed.
use Rattle.reporting.proofs.Naming.{version_is}
use Rattle.reporting.proofs.names.version_in.Goals as goal

pub returns : goal.returns
returns c = version_is _ _ _ _ c.part_start-start.ensures.0 c.parse.ensures c.named.ensures
