-- `part_start` meets its contract: the byte that is found is the last `/`.
use Rattle.std.proofs.Common.{rules, arith}
use Rattle.reporting.proofs.Naming.{slash_last, slash_none}
use Rattle.reporting.proofs.names.part_start.Goals as goal

pub returns-in-Some : goal.returns-in-Some
returns-in-Some c = (slash_last c.args.path.now c.in-Some.i _ (search rules) (search rules) (search rules), search rules)

pub returns-in-None : goal.returns-in-None
returns-in-None c = (slash_none c.args.path.now _ (search rules), omega arith)
