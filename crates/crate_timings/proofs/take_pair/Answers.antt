-- `crate_timings::take_pair` meets its contract: one read. Assumes nothing.
use Rattle.std.proofs.Common.{rules, ap, Ok}
use Rattle.steps.specs.Took.{then_two, stop_two, gives}
use Rattle.crate_timings.specs.Pairs.{pair}
use Rattle.crate_timings.proofs.take_pair.Goals as goal

pub returns-in_err-low : goal.returns-in_err-low
unfolding pair
returns-in_err-low c = stop_two _ c.in_err-low.ensures (search rules)

pub returns : goal.returns
unfolding pair
returns c = then_two _ c.in_ok-low.ensures (gives (ap Ok c.pair_of.ensures))
