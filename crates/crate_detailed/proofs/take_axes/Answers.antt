-- `crate_detailed::take_axes` meets its contract: one read after the other. Assumes nothing.
use Rattle.std.proofs.Common.{rules}
use Rattle.steps.specs.Took.{then, stop, then_four, stop_four}
use Rattle.crate_detailed.proofs.Room.{no_across, no_down, both}
use Rattle.crate_detailed.specs.Detailed.{axes}
use Rattle.crate_detailed.proofs.take_axes.Goals as goal

pub returns-in_err-hb : goal.returns-in_err-hb
unfolding axes
returns-in_err-hb c = stop_four _ c.in_err-hb.ensures (search rules)

pub returns-in_err-vh : goal.returns-in_err-vh
unfolding axes
returns-in_err-vh c =
    then_four _ c.in_ok-hb.ensures
    (stop_four _ c.in_err-vh.ensures (search rules))

pub returns-in_err-hv : goal.returns-in_err-hv
unfolding axes
returns-in_err-hv c =
    then_four _ c.in_ok-hb.ensures
    (then_four _ c.in_ok-vh.ensures
    (stop _ c.in_err-hv.ensures (search rules)))

pub returns-in_err-ok_or : goal.returns-in_err-ok_or
unfolding axes
returns-in_err-ok_or c =
    then_four _ c.in_ok-hb.ensures
    (then_four _ c.in_ok-vh.ensures
    (then _ c.in_ok-hv.ensures
    (no_across _ c.across_of.ensures c.ok_or.ensures.value c.in_err-ok_or.was (search rules))))

pub returns-in_err-ok_or-2 : goal.returns-in_err-ok_or-2
unfolding axes
returns-in_err-ok_or-2 c =
    then_four _ c.in_ok-hb.ensures
    (then_four _ c.in_ok-vh.ensures
    (then _ c.in_ok-hv.ensures
    (no_down c.across_of.ensures c.ok_or.ensures.value c.in_ok-ok_or.was
    c.down_of.ensures c.ok_or-2.ensures.value c.in_err-ok_or-2.was (search rules))))

pub returns : goal.returns
unfolding axes
returns c =
    then_four _ c.in_ok-hb.ensures
    (then_four _ c.in_ok-vh.ensures
    (then _ c.in_ok-hv.ensures
    (both c.across_of.ensures c.ok_or.ensures.value c.in_ok-ok_or.was
    c.down_of.ensures c.ok_or-2.ensures.value c.in_ok-ok_or-2.was)))
