-- `bursts::put` meets its contract. Assumes nothing.
use Rattle.std.proofs.Common.{rules}
use Rattle.bursts.specs.Laws.{noted_held, noted_stage}
use Rattle.bursts.proofs.put.Goals as goal

pub returns : goal.returns
returns c =
    let a = c.args in
    (noted_held a.state.now a.sort a.place a.number (search rules), noted_stage a.state.now a.sort a.place a.number (search rules))
