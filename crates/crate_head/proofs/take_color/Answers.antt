-- `crate_head::take_color` meets its contract: one read after the other. Assumes nothing.
use Rattle.std.proofs.Common.{rules}
use Rattle.steps.specs.Took.{then_two, stop_two, then_four, stop_four, gives}
use Rattle.crate_head.specs.Head.{color}
use Rattle.crate_head.proofs.take_color.Goals as goal

pub returns-in_err-rg : goal.returns-in_err-rg
unfolding color
returns-in_err-rg c = stop_two _ c.in_err-rg.ensures (search rules)

pub returns-in_err-rx : goal.returns-in_err-rx
unfolding color
returns-in_err-rx c =
    then_two _ c.in_ok-rg.ensures
    (stop_four _ c.in_err-rx.ensures (search rules))

pub returns-in_err-bx : goal.returns-in_err-bx
unfolding color
returns-in_err-bx c =
    then_two _ c.in_ok-rg.ensures
    (then_four _ c.in_ok-rx.ensures
    (stop_four _ c.in_err-bx.ensures (search rules)))

pub returns : goal.returns
unfolding color
returns c =
    then_two _ c.in_ok-rg.ensures
    (then_four _ c.in_ok-rx.ensures
    (then_four _ c.in_ok-bx.ensures
    (gives cc)))
