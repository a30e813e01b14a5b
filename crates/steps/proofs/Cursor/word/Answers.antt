-- `steps::Cursor::word` meets its contract: one read after the other. Assumes nothing.
use Rattle.std.proofs.Common.{rules, ap, Ok}
use Rattle.steps.specs.Took.{then_two, stop_two, gives}
use Rattle.steps.specs.Leaves.{word}
use Rattle.steps.proofs.Cursor.word.Goals as goal

pub returns-in_err-low : goal.returns-in_err-low
unfolding word
returns-in_err-low c = stop_two _ c.in_err-low.ensures (search rules)

pub returns : goal.returns
unfolding word
returns c = then_two _ c.in_ok-low.ensures (gives (ap Ok c.word.ensures))
