-- `bursts::held` meets its contract. Assumes nothing.
use Rattle.bursts.specs.Laws.{held_is}
use Rattle.bursts.proofs.held.Goals as goal

pub returns : goal.returns
returns c = held_is c.args.state.now c.count.result c.count.ensures
