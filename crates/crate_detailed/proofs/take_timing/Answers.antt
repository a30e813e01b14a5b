-- `crate_detailed::take_timing` meets its contract: one read after the other. Assumes nothing.
use Rattle.std.proofs.Common.{rules, ap, Ok, Some}
use Rattle.steps.specs.Took.{then, stop, then_two, stop_two, then_four, stop_four, gives}
use Rattle.crate_detailed.specs.Detailed.{timed}
use Rattle.crate_detailed.proofs.take_timing.Goals as goal

pub returns-in_err-axes : goal.returns-in_err-axes
unfolding timed
returns-in_err-axes c = stop _ c.in_err-axes.ensures (search rules)

pub returns-in_err-hs : goal.returns-in_err-hs
unfolding timed
returns-in_err-hs c =
    then _ c.in_ok-axes.ensures
    (stop_four _ c.in_err-hs.ensures (search rules))

pub returns-in_err-vb : goal.returns-in_err-vb
unfolding timed
returns-in_err-vb c =
    then _ c.in_ok-axes.ensures
    (then_four _ c.in_ok-hs.ensures
    (stop_two _ c.in_err-vb.ensures (search rules)))

pub returns : goal.returns
unfolding timed
returns c =
    then _ c.in_ok-axes.ensures
    (then_four _ c.in_ok-hs.ensures
    (then_two _ c.in_ok-vb.ensures
    (gives (ap (λ t. Ok (Some t)) c.timing_of.ensures))))
