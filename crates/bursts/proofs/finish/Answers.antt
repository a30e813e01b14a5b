-- `bursts::finish` meets its contract: what `read` ensures, of the bytes held. Assumes nothing.
use mathlib.Core.Path.{subst}
use Rattle.steps.specs.Leaves.{Beside}
use Rattle.crate_record.specs.Filler.{blank}
use Rattle.crate_reading.specs.Reading.{answer}
use Rattle.bursts.proofs.finish.Goals as goal

pub returns : goal.returns
returns c = subst (λ l. Beside blank c.read.result.edid c.read.result.end (answer l)) c.held.ensures c.read.ensures
