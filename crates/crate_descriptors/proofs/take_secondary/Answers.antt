-- `crate_descriptors::take_secondary` meets its contract: the kind picks the reading. Assumes nothing.
use Rattle.std.proofs.Common.{arith}
use Rattle.steps.specs.Took.{as_of}
use Rattle.crate_descriptors.specs.Laws.{secondary_none, secondary_gtf, secondary_other}
use Rattle.crate_descriptors.proofs.take_secondary.Goals as goal

pub returns-in-0 : goal.returns-in-0
returns-in-0 c = as_of (secondary_none c.in-0.is) c.take_none.ensures

pub returns-in-2 : goal.returns-in-2
returns-in-2 c = as_of (secondary_gtf c.in-2.is) c.take_gtf.ensures

pub returns-in_default : goal.returns-in_default
returns-in_default c = as_of (secondary_other (omega arith) (omega arith)) c.take_other.ensures
