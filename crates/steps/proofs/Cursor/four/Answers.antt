-- `steps::Cursor::four` meets its contract: one read after the other. Assumes nothing.
use Rattle.std.proofs.Common.{rules, refl}
use Rattle.steps.specs.Took.{then_two, stop_two, gives}
use Rattle.steps.specs.Leaves.{four}
use Rattle.steps.proofs.Cursor.four.Goals as goal

pub returns-in_err-a : goal.returns-in_err-a
unfolding four
returns-in_err-a c = stop_two _ c.in_err-a.ensures (search rules)

pub returns-in_err-x : goal.returns-in_err-x
unfolding four
returns-in_err-x c = then_two _ c.in_ok-a.ensures (stop_two _ c.in_err-x.ensures (search rules))

pub returns : goal.returns
unfolding four
returns c = then_two _ c.in_ok-a.ensures (then_two _ c.in_ok-x.ensures (gives refl))
