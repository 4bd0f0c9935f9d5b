-- `fill_number` meets its contract: a refusal has its number.
use Rattle.body_samples.proofs.fill_number.Goals as goal

pub returns-in-Err : goal.returns-in-Err
returns-in-Err c = rw c.in-Err.is c.number.ensures
