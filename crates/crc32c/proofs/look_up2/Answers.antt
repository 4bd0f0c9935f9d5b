-- `look_up2` meets its contract: two bytes by a caller's table.
use Rattle.crc32c_format.specs.TableSum.{look_up2}
use Rattle.crc32c.proofs.look_up2.Goals as goal

pub returns : goal.returns
unfolding look_up2
returns c = cc (c.from.ensures, c.from-2.ensures)
