-- `steps::Cursor::long` meets its contract: one read after the other. Assumes nothing.
use Rattle.std.proofs.Common.{rules, ap, Ok}
use Rattle.steps.specs.Took.{then, stop, gives}
use Rattle.steps.specs.Leaves.{long}
use Rattle.steps.proofs.Cursor.long.Goals as goal

pub returns-in_err-low : goal.returns-in_err-low
unfolding long
returns-in_err-low c = stop _ c.in_err-low.ensures (search rules)

pub returns-in_err-high : goal.returns-in_err-high
unfolding long
returns-in_err-high c = then _ c.in_ok-low.ensures (stop _ c.in_err-high.ensures (search rules))

pub returns : goal.returns
unfolding long
returns c = then _ c.in_ok-low.ensures (then _ c.in_ok-high.ensures (gives (ap Ok c.long.ensures)))
