-- `crate_descriptors::take_point` meets its contract: one read after the other. Assumes nothing.
use Rattle.std.proofs.Common.{Ok, ap, rules}
use Rattle.steps.specs.Took.{gives, stop, stop_four, then, then_four}
use Rattle.crate_descriptors.specs.Descriptors.{point}
use Rattle.crate_descriptors.proofs.take_point.Goals as goal

pub returns-in_err-index : goal.returns-in_err-index
unfolding point
returns-in_err-index c = stop_four _ c.in_err-index.ensures (search rules)

pub returns-in_err-gamma : goal.returns-in_err-gamma
unfolding point
returns-in_err-gamma c = then_four _ c.in_ok-index.ensures (stop _ c.in_err-gamma.ensures (search rules))

pub returns : goal.returns
unfolding point
returns c = then_four _ c.in_ok-index.ensures (then _ c.in_ok-gamma.ensures (gives (ap Ok c.point_of.ensures)))
