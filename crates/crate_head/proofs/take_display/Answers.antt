-- `crate_head::take_display` meets its contract: one read after the other. Assumes nothing.
use Rattle.std.proofs.Common.{rules}
use Rattle.steps.specs.Took.{then, stop, then_two, stop_two, gives}
use Rattle.crate_head.specs.Head.{display}
use Rattle.crate_head.proofs.take_display.Goals as goal

pub returns-in_err-input : goal.returns-in_err-input
unfolding display
returns-in_err-input c = stop _ c.in_err-input.ensures (search rules)

pub returns-in_err-width : goal.returns-in_err-width
unfolding display
returns-in_err-width c =
    then _ c.in_ok-input.ensures
    (stop_two _ c.in_err-width.ensures (search rules))

pub returns-in_err-byte : goal.returns-in_err-byte
unfolding display
returns-in_err-byte c =
    then _ c.in_ok-input.ensures
    (then_two _ c.in_ok-width.ensures
    (stop _ c.in_err-byte.ensures (search rules)))

pub returns-in_err-take_dpms : goal.returns-in_err-take_dpms
unfolding display
returns-in_err-take_dpms c =
    then _ c.in_ok-input.ensures
    (then_two _ c.in_ok-width.ensures
    (then _ c.in_ok-byte.ensures
    (stop _ c.in_err-take_dpms.ensures (search rules))))

pub returns : goal.returns
unfolding display
returns c =
    then _ c.in_ok-input.ensures
    (then_two _ c.in_ok-width.ensures
    (then _ c.in_ok-byte.ensures
    (then _ c.in_ok-take_dpms.ensures
    (gives cc))))
