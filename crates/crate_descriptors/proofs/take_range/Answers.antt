-- `crate_descriptors::take_range` meets its contract: one read after the other. Assumes nothing.
use Rattle.std.proofs.Common.{Ok, ap, rules}
use Rattle.steps.specs.Took.{gives, stop, stop_four, stop_two, then, then_four, then_two}
use Rattle.crate_descriptors.specs.Descriptors.{range}
use Rattle.crate_record.specs.declared.MonitorDescriptor.TheVariants.{RangeLimits}
use Rattle.crate_descriptors.specs.declared.Slot.TheVariants.{Described}
use Rattle.crate_descriptors.proofs.take_range.Goals as goal

pub returns-in_err-vmin : goal.returns-in_err-vmin
unfolding range
returns-in_err-vmin c = stop_four _ c.in_err-vmin.ensures (search rules)

pub returns-in_err-clock : goal.returns-in_err-clock
unfolding range
returns-in_err-clock c = then_four _ c.in_ok-vmin.ensures (stop_two _ c.in_err-clock.ensures (search rules))

pub returns-in_err-secondary : goal.returns-in_err-secondary
unfolding range
returns-in_err-secondary c =
    then_four _ c.in_ok-vmin.ensures (then_two _ c.in_ok-clock.ensures (stop _ c.in_err-secondary.ensures (search rules)))

pub returns : goal.returns
unfolding range
returns c =
    then_four _ c.in_ok-vmin.ensures (then_two _ c.in_ok-clock.ensures (then _ c.in_ok-secondary.ensures (gives (ap (λ l. Ok (Described (RangeLimits l c.in_ok-secondary.secondary))) c.limits_of-limits.ensures))))
