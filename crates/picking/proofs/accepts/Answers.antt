-- `picking::accepts` meets its contract, by what the chooser answers. Assumes nothing.
use Rattle.picking.proofs.Laws.{same_index}
use Rattle.picking.proofs.accepts.Goals as goal

pub returns-in-Ok : goal.returns-in-Ok
returns-in-Ok c = same_index _ _ _ _ (rw c.in-Ok.is at c.choose.ensures)

pub returns-in-Err : goal.returns-in-Err
returns-in-Err c = λ b. (rw c.in-Err.is at c.choose.ensures).1 _ b.timing b.there b.qualifies
