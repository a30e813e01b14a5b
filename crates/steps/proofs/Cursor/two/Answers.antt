-- `steps::Cursor::two` meets its contract: one read after the other. Assumes nothing.
use Rattle.std.proofs.Common.{rules, refl}
use Rattle.steps.specs.Took.{then, stop, gives}
use Rattle.steps.specs.Leaves.{two}
use Rattle.steps.proofs.Cursor.two.Goals as goal

pub returns-in_err-first : goal.returns-in_err-first
unfolding two
returns-in_err-first c = stop _ c.in_err-first.ensures (search rules)

pub returns-in_err-second : goal.returns-in_err-second
unfolding two
returns-in_err-second c = then _ c.in_ok-first.ensures (stop _ c.in_err-second.ensures (search rules))

pub returns : goal.returns
unfolding two
returns c = then _ c.in_ok-first.ensures (then _ c.in_ok-second.ensures (gives refl))
