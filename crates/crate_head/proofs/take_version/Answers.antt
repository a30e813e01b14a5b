-- `crate_head::take_version` meets its contract: one read after the other. Assumes nothing.
use Rattle.std.proofs.Common.{rules, refl}
use Rattle.steps.specs.Took.{then_two, stop_two, gives}
use Rattle.crate_head.specs.Head.{version}
use Rattle.crate_head.proofs.take_version.Goals as goal

pub returns-in_err-version : goal.returns-in_err-version
unfolding version
returns-in_err-version c = stop_two _ c.in_err-version.ensures (search rules)

pub returns : goal.returns
unfolding version
returns c = then_two _ c.in_ok-version.ensures (gives refl)
