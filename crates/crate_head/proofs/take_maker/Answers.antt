-- `crate_head::take_maker` meets its contract: one read after the other. Assumes nothing.
use Rattle.std.proofs.Common.{rules, ap, Ok}
use Rattle.steps.specs.Took.{then, stop, gives}
use Rattle.crate_head.specs.Head.{maker}
use Rattle.crate_head.proofs.take_maker.Goals as goal

pub returns-in_err-k : goal.returns-in_err-k
unfolding maker
returns-in_err-k c = stop _ c.in_err-k.ensures (search rules)

pub returns : goal.returns
unfolding maker
returns c = then _ c.in_ok-k.ensures (gives (ap Ok c.maker_of.ensures))
