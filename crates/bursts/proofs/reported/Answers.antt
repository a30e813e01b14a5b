-- `bursts::reported` meets its contract. Assumes nothing.
use Rattle.bursts.specs.Bursts.{stage}
use Rattle.bursts.proofs.reported.Goals as goal

pub returns : goal.returns
unfolding stage
returns c = c.report_of.ensures
