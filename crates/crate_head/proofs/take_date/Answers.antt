-- `crate_head::take_date` meets its contract: one read after the other. Assumes nothing.
use Rattle.std.proofs.Common.{rules, refl}
use Rattle.steps.specs.Took.{then_two, stop_two, gives}
use Rattle.crate_head.specs.Head.{date}
use Rattle.crate_head.proofs.take_date.Goals as goal

pub returns-in_err-week : goal.returns-in_err-week
unfolding date
returns-in_err-week c = stop_two _ c.in_err-week.ensures (search rules)

pub returns : goal.returns
unfolding date
returns c = then_two _ c.in_ok-week.ensures (gives refl)
